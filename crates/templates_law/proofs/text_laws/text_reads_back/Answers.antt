use Rattle.std.proofs.Common.{List, Ok, ap, subst}
use Rattle.asm86_line_types.specs.declared.line.Line86.{Line86}
use Rattle.asm86_line_types.specs.Written.{written_text}
use Rattle.asm86.specs.Stream.{TextGives}
use Rattle.templates.specs.Plain.{numbered_from}
use Rattle.templates.specs.Style.{plain_style}
use Rattle.templates.specs.Lean.{lean_style}
use Rattle.templates_law.proofs.text_laws.text_reads_back.Goals as goal

pub returns : goal.returns
returns c =
    let stands = c.own_text_stands.ensures.stands in
    let reads_back : List Line86 → Type 0 = λ lines. TextGives (written_text lines) (Ok lines) in
    record {
      plain = λ p is. subst reads_back (ap (numbered_from 1) (c.plain_is_a_style.ensures.is p)) (stands plain_style p is).reads_back;
      lean = λ n p is. (stands (lean_style n p) p is).reads_back;
    }
