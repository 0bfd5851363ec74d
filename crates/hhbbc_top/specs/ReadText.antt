-- Texts by what they spell: a repository, and one of the form that is annotated and run.
use Rattle.std.specs.Prelude.{◌≡◌, ℕ, List}
use Rattle.hhbc_repo.specs.Linked.{Linked}
use Rattle.hhbc_semantics.specs.Form.{IsSecondForm}
use Rattle.hhbc_repo.specs.LinkFaults.{Whole}
use Rattle.hhbc_repo.specs.Shapes.{Types}
use Rattle.hhbc_repo.specs.TextSyntax.{FirstFault, Spells}
use Rattle.hhas_read.specs.LinkedTexts.{ReadsRepository}

-- the repository of the text is of the second form and keeps to its shapes
pub record IsReadText (bytes : List ℕ) (r : Linked) : Type 0 where
  pub reads : ReadsRepository bytes r
  pub form : IsSecondForm r
  pub types : Types r

-- a text spells one list of parts at most
abbrev pub SpellsOne : Type 0
SpellsOne = (bytes : List ℕ) (r s : Whole) → Spells bytes r → Spells bytes s → r ≡ s

-- a text that spells parts has no fault
abbrev pub SpelledIsFaultless : Type 0
SpelledIsFaultless = (bytes : List ℕ) (r : Whole) (at : ℕ) → Spells bytes r → FirstFault bytes at → ⊥
