-- What a setting stands for.
use Rattle.base.specs.Addresses.{has_address}
use Rattle.asm80_first_walk.specs.Scopes.{scope_of}
use Rattle.asm80_values.specs.declared.setting.Setting.{Setting}
use Rattle.asm80_source_def.specs.Items.{Setting as Seen}

abbrev pub setting_of : Setting → Seen
setting_of t = record { scope = scope_of t.scope; is_start = has_address t.starts.now }
