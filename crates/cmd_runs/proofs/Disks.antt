-- The devices that files make, and why they make none: one thing by the disk's file.
use Rattle.std.proofs.Common.{◌≡◌, ℕ, List, sym, ap, ◌∙◌, subst}
use Rattle.bdos_small.specs.Stored.{Stored}
use Rattle.bdos_small.specs.Disks.{IsDisk}
use Rattle.bdos_small.specs.DiskFile.{disk_file, IsBadAt}
use Rattle.bdos_small.specs.Supply.{Supply, first_supply}
use Rattle.cmd_runs.specs.Supplies.{Given, HasDisk}

-- what is known of disk files
pub record DiskLaw : Type 0 where
  pub told : (d c : List Stored) → IsDisk d → IsDisk c → disk_file d ≡ disk_file c → d ≡ c
  pub taken : (d : List Stored) (k : ℕ) → IsDisk d → IsBadAt (disk_file d) k → ⊥

module _ (law : DiskLaw) (given : Given) where
  pub one_supply : (a b : Supply) → HasDisk given a → HasDisk given b → a ≡ b
  one_supply a b h i =
      let same : h.disk ≡ i.disk = law.told h.disk i.disk h.is_disk i.is_disk (sym h.file ∙ i.file) in
      h.is ∙ ap (λ d. first_supply d given.input given.ports) same ∙ sym i.is

  pub disk_or_none : (s : Supply) (k : ℕ) → HasDisk given s → IsBadAt given.disk k → ⊥
  disk_or_none s k h bad = law.taken h.disk k h.is_disk (subst (λ b. IsBadAt b k) h.file bad)
