-- The last line of runs that were made names no file, and is not empty.
use Rattle.std.proofs.Common.{ℕ, ◌<◌, length, Option, Some, None, refl, arith}
use Rattle.emulator_loop.specs.declared.emulator.Why.TheVariants.{Left, NoInstruction, StackSegment, OddCall}
use Rattle.emulator_loop.specs.declared.running.RunEnd.{RunEnd}
use Rattle.emulator_loop.specs.declared.running.RunEnd.TheVariants.{Ended, Stopped, StepLimit, InputEnded, NoDrive}
use Rattle.emulator_loop.specs.declared.running.Conversation.{Conversation}
use Rattle.cmd_runs.specs.Ends.{came_by_end, came_to}
use Rattle.cmd_runs.specs.Lasts.{steps_line, NamesNoFile}

end_names_no_file : (second : Option ℕ) (limit line steps : ℕ) (end : RunEnd) → NamesNoFile second (came_by_end limit line steps end)
end_names_no_file second limit line steps Ended = λ names others. refl
end_names_no_file second limit line steps (Stopped (Left place rule)) = λ names others. refl
end_names_no_file second limit line steps (Stopped (NoInstruction offset)) = λ names others. refl
end_names_no_file second limit line steps (Stopped (StackSegment offset)) = λ names others. refl
end_names_no_file second limit line steps (Stopped (OddCall offset function)) = λ names others. refl
end_names_no_file second limit line steps StepLimit = λ names others. refl
end_names_no_file second limit line steps InputEnded = λ names others. refl
end_names_no_file second limit line steps (NoDrive function) = λ names others. refl

pub names_no_file : (second : Option ℕ) (limit line : ℕ) (c : Conversation) → NamesNoFile second (came_to limit line c)
names_no_file second limit line c = end_names_no_file second limit line c.steps c.end

pub steps_some : (second : Option ℕ) (steps : ℕ) → 0 < length (steps_line second steps)
steps_some None steps = omega arith
steps_some (Some more) steps = omega arith
