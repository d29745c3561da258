use Rattle.std.proofs.Common.{◌≡◌, ℕ, [], ◌∷◌, ap, ◌∙◌}
use Rattle.dialogue.specs.ByteMemory.{put_bytes}
use Rattle.cpu86.specs.State.{back}
use Rattle.cpu86.specs.Call.{spoiled}
use Rattle.cpu86.specs.ProcessorState.{memory_of_86}
use Rattle.cpu86.proofs.memory.Memory.spoil.Goals as goal

six : (a b c d e f a' b' c' d' e' f' : ℕ) → a ≡ a' → b ≡ b' → c ≡ c' → d ≡ d' → e ≡ e' → f ≡ f' → a ∷ (b ∷ (c ∷ (d ∷ (e ∷ (f ∷ []))))) ≡ a' ∷ (b' ∷ (c' ∷ (d' ∷ (e' ∷ (f' ∷ [])))))
six a b c d e f a' b' c' d' e' f' p q r s t u = cc

pub returns : goal.returns
unfolding spoiled
returns c =
    c.set_bytes.ensures
    ∙ ap (put_bytes (memory_of_86 c.args.self.now) (back c.args.sp 6)) (six _ _ _ _ _ _ _ _ _ _ _ _ c.choice_byte.ensures c.choice_byte-2.ensures c.choice_byte-3.ensures c.choice_byte-4.ensures c.choice_byte-5.ensures c.choice_byte-6.ensures)
