-- What bodies are made of.
use Rattle.std.proofs.Common.{◌≡◌, ℕ, Bool, true, false, ◌&&◌, List, [], ◌∷◌, ◌⊎◌, inl, inr, refl, ap, ◌∙◌, Option, Some, None, codes, not}
use Rattle.std.specs.Str.{bytes_eq}
use Rattle.std.proofs.lemmas.Slice.Eq.{bytes_eq-Decides}
use Rattle.hhas_lex.specs.Tokens as tokens
use Rattle.hhas_lex.specs.Tokens.{Token, Directive, Mark, front}
use Rattle.hhbc_repo.specs.declared.parts.BodyParts.{BodyParts}
use Rattle.hhbc_repo.specs.declared.parts.ItemParts.{ItemParts}
use Rattle.hhbc_repo.specs.declared.parts.TypeParts.{TypeParts}
use Rattle.hhbc_repo.specs.BodySyntax.{ABody, AnItemList, Declared, Inner, Iterators, Params, Returns}
use Rattle.hhbc_repo.specs.CodeSyntax.{AWord, UpTo}
use Rattle.hhbc_repo.specs.Languages.{Lang, Behind, Both, Ended, Says}
use Rattle.hhbc_repo.specs.TypeSyntax.{AType}
use Rattle.hhas_read.specs.Directives.{no_directive}
use Rattle.hhas_read.specs.Reading.{Placed, Follow, LocalsTo, StuckAt, Taken, Just, any, next}
use Rattle.hhas_read.specs.Written.{ends_type}
use Rattle.hhas_read.proofs.Following.{unended}
use Rattle.hhas_read.proofs.Joining.{says_taken}
use Rattle.hhas_read.proofs.Optional.{Optional, absent, perhaps, present}
use Rattle.hhas_read.proofs.Resuming.{Resumes, resumes_then}
use Rattle.hhas_read.proofs.Within.{ended_within, nothing_ended}

-- ---- directives that stand once

differ : (letters name : List ℕ) (b : Bool) → bytes_eq letters name ≡ b → (Directive letters ≡ Directive name → ⊥) → not b ≡ true
differ letters name true e other = absurd (other (ap Directive ((bytes_eq-Decides letters name).0 e)))
differ letters name false e other = refl

pub not_again : (name : List ℕ) (t : Token) → (t ≡ Directive name → ⊥) → no_directive name t ≡ true
not_again name (tokens.Directive letters) other = differ letters name (bytes_eq letters name) refl other
not_again name (tokens.Word w) other = refl
not_again name (tokens.Local w) other = refl
not_again name (tokens.Integer w) other = refl
not_again name (tokens.Str w) other = refl
not_again name (tokens.Mark w) other = refl
not_again name tokens.LessEqual other = refl
not_again name tokens.End other = refl
not_again name tokens.Bad other = refl

pub itself : (name : List ℕ) → no_directive name (Directive name) ≡ false
itself name = ap not ((bytes_eq-Decides name name).1 refl)

-- nothing more is there
pub once : {V : Type 0} (name : List ℕ) (v : V) (p : Placed) → (next p ≡ Directive name → ⊥) → Taken (no_directive name) (Says [] v) p p v
once name v p other = says_taken (no_directive name) v p (not_again name (next p) other)

pub twice : {V : Type 0} (name : List ℕ) (v : V) (p : Placed) → next p ≡ Directive name → StuckAt (no_directive name) (Says [] v) p p
twice name v p is = unended (no_directive name) v p (ap (no_directive name) is ∙ itself name)

-- ---- what is stated of a result

abbrev pub after_stated : Follow
after_stated t = ends_type t && no_directive (codes "returns") t

abbrev pub StatedToBrace : Lang (Option TypeParts)
StatedToBrace = Ended Returns (Mark 123 ∷ [])

abbrev pub TypeToBrace : Lang TypeParts
TypeToBrace = Ended AType (Mark 123 ∷ [])

pub a_result : Optional Returns (Directive (codes "returns")) AType Some None
a_result = perhaps (Directive (codes "returns")) AType

pub unstated : (left : List Token) → (front left ≡ Directive (codes "returns") → ⊥) → Resumes any StatedToBrace [] (Just (Mark 123)) (λ u. None) left
unstated left other =
    let none : Resumes any StatedToBrace [] (Ended (Says [] None) (Mark 123 ∷ [])) (λ v. v) left =
    ended_within any after_stated Returns [] (Says [] None) (λ v. v) (Mark 123) [] left refl
    (absent after_stated Returns (Directive (codes "returns")) AType Some None a_result left other) in
    resumes_then any StatedToBrace (Ended (Says [] None) (Mark 123 ∷ [])) (Just (Mark 123)) [] [] left left (λ v. v) (λ u. None) none (nothing_ended any None (Mark 123) left) refl

pub stated_type : (left : List Token) → Resumes any StatedToBrace (Directive (codes "returns") ∷ []) TypeToBrace Some left
stated_type left =
    ended_within any after_stated Returns (Directive (codes "returns") ∷ []) AType Some (Mark 123) [] left refl
    (present after_stated Returns (Directive (codes "returns")) AType Some None a_result refl left)

-- ---- declared locals, and the number of iterators

pub some_locals : Optional Declared (Directive (codes "declvars")) (LocalsTo 59) (λ v. v) []
some_locals = record { some = some; nothing = refl; only = only }
  where
    some : (w : List Token) (u : List (List ℕ)) → Behind (Directive (codes "declvars") ∷ []) (LocalsTo 59) w u → Declared w u
    some w [] b = absurd b.word.word
    some w (x ∷ xs) b = b

    only : (w : List Token) (v : List (List ℕ)) → Declared w v
        → ((u : List (List ℕ)) × Behind (Directive (codes "declvars") ∷ []) (LocalsTo 59) w u × (v ≡ u)) ⊎ ((w ≡ []) × (v ≡ []))
    only w [] n = inr (n, refl)
    only w (x ∷ xs) n = inl (x ∷ xs, n, refl)

abbrev pub Count : Lang ℕ
Count = Ended (UpTo 65535) (Mark 59 ∷ [])

pub some_count : Optional Iterators (Directive (codes "numiters")) Count (λ v. v) 0
some_count = record { some = λ w u b. inl b; nothing = inr (refl, refl); only = only }
  where
    only : (w : List Token) (v : ℕ) → Iterators w v → ((u : ℕ) × Behind (Directive (codes "numiters") ∷ []) Count w u × (v ≡ u)) ⊎ ((w ≡ []) × (v ≡ 0))
    only w v (inl b) = inl (v, b, refl)
    only w v (inr b) = inr b

-- ---- the whole

abbrev pub ItemsToEnd : Lang (List ItemParts)
ItemsToEnd = Ended AnItemList (Mark 125 ∷ [])

abbrev pub Counted : Lang (ℕ × List ItemParts)
Counted = Both Iterators ItemsToEnd

abbrev pub Braced : Lang (List (List ℕ) × (ℕ × List ItemParts))
Braced = Behind (Mark 123 ∷ []) Inner

abbrev pub Stated : Lang (Option TypeParts × (List (List ℕ) × (ℕ × List ItemParts)))
Stated = Both Returns Braced

abbrev pub NamedParts : Type 0
NamedParts = List ℕ × (List (List ℕ) × (Option TypeParts × (List (List ℕ) × (ℕ × List ItemParts))))

abbrev pub Named : Lang NamedParts
Named = Both AWord (Both Params Stated)

abbrev pub body_of : NamedParts → BodyParts
body_of p = record { name = p.0; params = p.1.0; stated = p.1.1.0; locals = p.1.1.1.0; iters = p.1.1.1.1.0; items = p.1.1.1.1.1 }

pub body_named : (left : List Token) → Resumes any ABody [] Named body_of left
body_named left = record {
  on = λ ts u m. m;
  back = λ w v x y n o h e. (w, (v.name, (v.params, (v.stated, (v.locals, (v.iters, v.items))))), n, refl, refl);
}
