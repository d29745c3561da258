-- From the steps of a command's work to why it stops, or what it has made.
use Rattle.std.proofs.Common.{◌≡◌, ℕ, List, Some, sym, ◌∙◌, subst}
use Rattle.host.specs.Host.{HostState, OnlyReads, OnlyWrites, SameFaults, Rewrites}
use Rattle.host.proofs.HostLemmas.{SameFaults-trans}
use Rattle.cmd_common.specs.declared.stop.Stop.{Stop}
use Rattle.cmd_common.specs.Writing.{Writes, WriteStops}
use Rattle.cmd_common.proofs.WriteEnds.{writes_behind, fails_behind, wrote}
use Rattle.cmd_common.specs.Kinds.{MakeKind}
use Rattle.cmd_common.specs.Makes.{IsOutput, LosesOutput, IsMade, MakeStops, unwritten, HasMade}

module _ {Made : Type 0} (k : MakeKind Made) (old mid new : HostState) (reads : OnlyReads old mid) (counted : SameFaults old mid) (name : List ℕ) (named : k.output ≡ Some name) (m : Made) (is : IsMade k old m) (bytes : List ℕ) (content : bytes ≡ k.content m) where
  -- the write failed
  pub write_stop : (stop : Stop) → WriteStops name bytes mid new stop → MakeStops k old new stop
  write_stop stop w =
      unwritten m is
      (subst (λ o. LosesOutput o (k.content m) old new stop) (sym named)
      (subst (λ b. WriteStops name b old new stop) content
      (record { fault = w.fault; is = w.is; fails = fails_behind old mid new name bytes w.fault reads w.fails })))

  -- what the file gives was written (`unfoldable`: what was made is read off it)
  unfoldable pub has_made : OnlyWrites mid new name → Rewrites mid new name bytes → SameFaults mid new → (line : List ℕ) → line ≡ k.report m → HasMade k old new line
  has_made only w s line said = record {
    made = m;
    is = is;
    output =
        subst (λ o. IsOutput o (k.content m) old new) (sym named)
        (subst (λ b. Writes name b old new) content (writes_behind old mid new name bytes reads (wrote name bytes mid new only w)), only.said ∙ reads.said);
    counted = SameFaults-trans counted s;
    line_is = said;
  }
