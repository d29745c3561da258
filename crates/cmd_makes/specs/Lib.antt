pub mod Shows
pub mod Cmds
pub mod Hexes
