-- The canonical text of a repository is read back to it.
use Rattle.std.proofs.Common.{◌≡◌, ℕ, List, [], ◌∷◌, append_assoc, refl, sym, ap, subst, ◌∙◌}
use Rattle.hhbc_repo.specs.Canonical.{canonical}
use Rattle.hhbc_repo.specs.CanonicalText.{canonical_text}
use Rattle.hhbc_repo.specs.declared.link_fault.LinkFault.{LinkFault}
use Rattle.hhbc_repo.specs.Linked.{Linked}
use Rattle.hhbc_repo.specs.LinkFaults.{Whole, faults}
use Rattle.hhbc_repo.specs.Resolved.{resolved}
use Rattle.hhbc_repo.specs.Spelled.{HasSpelling}
use Rattle.hhbc_repo.specs.TextSyntax.{FirstFault, Spells}
use Rattle.hhbc_repo.proofs.LinksBack.{linked_back}
use Rattle.hhbc_repo.proofs.SpelledFits.{declared_fit}
use Rattle.hhbc_repo.proofs.TextsSpelled.{text_spelled}
use Rattle.hhas_read.specs.declared.linked_texts.ReadFault.{ReadFault}
use Rattle.hhas_read.specs.declared.linked_texts.ReadFault.TheVariants as why
use Rattle.hhas_read.specs.LinkedTexts.{IsReadFault, ReadsRepository}
use Rattle.hhas_read.proofs.DeclaredLaws.{declared_law}
use Rattle.hhas_read.proofs.FirstFaults.{spells_one}
use Rattle.hhas_read.proofs.FittingTexts.{spelled_fits}

pub repositories_one : (bytes : List ℕ) (r s : Linked) → ReadsRepository bytes r → ReadsRepository bytes s → r ≡ s
repositories_one bytes r s a b =
    a.links.is ∙ ap resolved (spells_one declared_law bytes a.parts b.parts a.spells b.spells) ∙ sym b.links.is

-- what is read has a spelling
pub read_spelled : (bytes : List ℕ) (r : Linked) → ReadsRepository bytes r → HasSpelling r
read_spelled bytes r k =
    let b = linked_back k.parts (spelled_fits (λ ts ds p m. declared_fit ts ds m p) bytes k.parts k.spells) k.links.sound in
    subst HasSpelling (sym k.links.is) (record { fits = b.0; links = b.1 })

canonical_spelled : (r : Linked) → HasSpelling r → Spells (canonical_text r) (canonical r)
canonical_spelled r h = text_spelled (canonical r) h.fits

pub read_back : (r : Linked) → HasSpelling r → ReadsRepository (canonical_text r) r
read_back r h = record { parts = canonical r; spells = canonical_spelled r h; links = h.links }

-- a text that spells parts has no fault
spelled_faultless : (bytes : List ℕ) (w : Whole) (at : ℕ) → Spells bytes w → FirstFault bytes at → ⊥
spelled_faultless bytes w at s f =
    f.none (record { bytes = bytes; parts = w; more = f.more; spells = s; begins = f.tokens ∙ sym (append_assoc f.read (f.token ∷ []) f.more) })

pub none_first : (xs : List LinkFault) (f : LinkFault) (more : List LinkFault) → xs ≡ [] → xs ≡ f ∷ more → ⊥
none_first [] f more e g = absurd (cc)
none_first (x ∷ xs) f more e g = absurd (cc)

pub no_fault_back : (r : Linked) → HasSpelling r → (fault : ReadFault) → IsReadFault (canonical_text r) fault → fault ≡ why.NoMemory
no_fault_back r h (why.TextFault at) k = absurd (spelled_faultless (canonical_text r) (canonical r) at (canonical_spelled r h) k)
no_fault_back r h (why.LinkFault f) k =
    let same = spells_one declared_law (canonical_text r) (canonical r) k.parts (canonical_spelled r h) k.spells in
    absurd (none_first (faults k.parts) f k.more (ap faults (sym same) ∙ h.links.sound) k.first)
no_fault_back r h why.NoMemory k = refl
