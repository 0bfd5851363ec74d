-- What is read of a text is one thing: it has a fault, or the first of its faults of linking, or one repository.
use Rattle.std.proofs.Common.{◌≡◌, ℕ, sym, ◌∙◌, ap, subst, List, [], ◌∷◌}
use Rattle.hhbc_repo.specs.declared.link_fault.LinkFault.{LinkFault}
use Rattle.hhbc_repo.specs.Linked.{Linked}
use Rattle.hhbc_repo.specs.LinkFaults.{faults}
use Rattle.hhbc_repo.specs.Resolved.{resolved}
use Rattle.hhbc_repo.specs.TextSyntax.{FirstFault}
use Rattle.hhas_read.specs.LinkedTexts.{ReadsRepository, LinksWithFault}
use Rattle.hhas_read.proofs.ReadBack.{none_first}
use Rattle.hhbbc_top.specs.ReadText.{SpellsOne, SpelledIsFaultless}

pub links-or-not : SpellsOne → (bytes : List ℕ) (r : Linked) (f : LinkFault) → ReadsRepository bytes r → LinksWithFault bytes f → ⊥
links-or-not one bytes r f a b =
    none_first (faults b.parts) f b.more (ap faults (sym (one bytes a.parts b.parts a.spells b.spells)) ∙ a.links.sound) b.first

pub read-or-not : SpelledIsFaultless → (bytes : List ℕ) (r : Linked) (at : ℕ) → ReadsRepository bytes r → FirstFault bytes at → ⊥
read-or-not spelled bytes r at a b = spelled bytes a.parts at a.spells b

pub linked-or-not : SpelledIsFaultless → (bytes : List ℕ) (f : LinkFault) (at : ℕ) → LinksWithFault bytes f → FirstFault bytes at → ⊥
linked-or-not spelled bytes f at a b = spelled bytes a.parts at a.spells b
