pub mod Machine80
pub mod Machine86
pub mod MachineBytes
