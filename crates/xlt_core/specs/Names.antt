-- Words of the crates below by which the commands' contracts speak of a text: `Same`, and what is found of it.
unfoldable pub use Rattle.templates_law.specs.Names.{Same}
pub use Rattle.text_check.specs.declared.finding.Finding.{Finding}
pub use Rattle.text_check.specs.declared.finding.Finding.TheVariants.{Shown, NotShown}
pub use Rattle.text_check.specs.Findings.{IsFinding, OneFinding, IfShown}
