-- What is read of a text that is linked.
use Rattle.std.specs.Prelude.{◌≡◌, ℕ, List, ◌∷◌, Result, Ok, Err}
use Rattle.hhbc_repo.specs.declared.link_fault.LinkFault.{LinkFault}
use Rattle.hhbc_repo.specs.Linked.{Linked}
use Rattle.hhbc_repo.specs.LinkFaults.{Whole, faults}
use Rattle.hhbc_repo.specs.Resolved.{LinksTo}
use Rattle.hhbc_repo.specs.TextSyntax.{FirstFault, Spells}
use Rattle.hhas_read.specs.declared.linked_texts.ReadFault.{ReadFault}
use Rattle.hhas_read.specs.declared.linked_texts.ReadFault.TheVariants as why

-- what linking of parts comes to
abbrev pub LinksParts : Whole → Result Linked ReadFault → Type 0
LinksParts w (Ok repo) = LinksTo w repo
LinksParts w (Err (why.TextFault at)) = ⊥
LinksParts w (Err (why.LinkFault f)) = (more : List LinkFault) × (faults w ≡ f ∷ more)
LinksParts w (Err why.NoMemory) = Unit {0}

-- the text spells parts that link to the repository
pub record ReadsRepository (bytes : List ℕ) (repo : Linked) : Type 0 where
  pub parts : Whole
  pub spells : Spells bytes parts
  pub links : LinksTo parts repo

-- the text spells parts of which the fault is the first
pub record LinksWithFault (bytes : List ℕ) (f : LinkFault) : Type 0 where
  pub parts : Whole
  pub spells : Spells bytes parts
  pub more : List LinkFault
  pub first : faults parts ≡ f ∷ more

abbrev pub IsReadFault : List ℕ → ReadFault → Type 0
IsReadFault bytes (why.TextFault at) = FirstFault bytes at
IsReadFault bytes (why.LinkFault f) = LinksWithFault bytes f
IsReadFault bytes why.NoMemory = Unit {0}
