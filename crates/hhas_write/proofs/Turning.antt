-- Items that are written one after the other.
use Rattle.std.proofs.Common.{◌≡◌, ℕ, zero, suc, ◌+◌, ◌-◌, ◌≤◌, List, [], ◌∷◌, ◌++◌, refl, sym, ap, ◌∙◌, append_assoc, append-nil, subst, subst₂, arith, drop, length, Some, codes, replicate}
use Rattle.std.proofs.lemmas.List.{drop_all, replicate_more}
use Rattle.hhas_lex.specs.Spaced.{Spaced, text_of}
use Rattle.hhas_lex.specs.Tokens.{Directive, Mark, Word}
use Rattle.hhbc_repo.specs.declared.parts.ItemParts.{ItemParts}
use Rattle.hhbc_repo.specs.declared.parts.ItemParts.TheVariants as items
use Rattle.hhbc_repo.specs.declared.parts.PositionParts.{PositionParts}
use Rattle.hhbc_repo.specs.declared.body.Body.{Body}
use Rattle.hhbc_repo.specs.declared.body.Position.{Position}
use Rattle.hhbc_repo.specs.LinkFaults.{Name}
use Rattle.hhbc_repo.specs.Canonical.{before, canonical_position, firsts, how_many, items_from, label_at, label_called, label_item, lasts, mids}
use Rattle.hhbc_repo.specs.CanonicalText.{line, spaced, tight, outer, item_pieces, position_pieces}
use Rattle.hhas_write.specs.Items.{Writes, catch_text, try_text}
use Rattle.hhas_write.proofs.Written.{text_append}

pub writes_none : (out : List ℕ) (depth : ℕ) → Writes [] out depth out depth
writes_none out depth = record { leads = λ more. refl }

pub writes_both : (xs ys : List ItemParts) (a b c : List ℕ) (d e f : ℕ) → Writes xs a d b e → Writes ys b e c f → Writes (xs ++ ys) a d c f
writes_both xs ys a b c d e f h k = record {
  leads = λ more. ap (λ l. a ++ text_of (item_pieces d l)) (append_assoc xs ys more) ∙ (h.leads (ys ++ more) ∙ k.leads more);
}

written_behind : (ps : List Spaced) (out : List ℕ) (rest : List Spaced) → out ++ text_of (ps ++ rest) ≡ (out ++ text_of ps) ++ text_of rest
written_behind ps out rest = ap (λ l. out ++ l) (text_append ps rest) ∙ sym (append_assoc out (text_of ps) (text_of rest))

pub one_end : (out : List ℕ) (depth : ℕ) → Writes (items.End ∷ []) out depth (out ++ text_of (line (outer depth) (Mark 125) ∷ [])) (outer depth)
one_end out depth = record { leads = λ more. written_behind (line (outer depth) (Mark 125) ∷ []) out (item_pieces (outer depth) more) }

pub one_catch : (out : List ℕ) (depth : ℕ) → Writes (items.Catch ∷ []) out depth (out ++ catch_text (outer depth)) depth
one_catch out depth = record {
  leads = λ more. written_behind (line (outer depth) (Mark 125) ∷ spaced (Directive (codes "catch")) ∷ spaced (Mark 123) ∷ []) out (item_pieces depth more);
}

pub one_try : (out : List ℕ) (depth : ℕ) → Writes (items.Try ∷ []) out depth (out ++ try_text depth) (suc depth)
one_try out depth = record {
  leads = λ more. written_behind (line depth (Directive (codes "try")) ∷ spaced (Mark 123) ∷ []) out (item_pieces (suc depth) more);
}

pub one_label : (out : List ℕ) (depth label : ℕ)
    → Writes (items.Label (label_called label) ∷ []) out depth (out ++ text_of (line depth (Word (label_called label)) ∷ tight (Mark 58) ∷ [])) depth
one_label out depth label = record {
  leads = λ more. written_behind (line depth (Word (label_called label)) ∷ tight (Mark 58) ∷ []) out (item_pieces depth more);
}

pub one_position : (out : List ℕ) (depth : ℕ) (p : PositionParts) → Writes (items.Position p ∷ []) out depth (out ++ text_of (position_pieces depth p)) depth
one_position out depth p = record { leads = λ more. written_behind (position_pieces depth p) out (item_pieces depth more) }

pub outer_is : (depth : ℕ) → outer depth ≡ depth - 1
outer_is zero = refl
outer_is (suc depth) = omega arith

-- a position, and what stands before it
pub one_step : (names : List Name) (b : Body) (p : ℕ) (q : Position) (qs : List Position) (out middle new : List ℕ) (depth inner : ℕ)
    → Writes (before b p) out depth middle inner
    → new ≡ middle ++ text_of (position_pieces inner (canonical_position names b q))
    → out ++ text_of (item_pieces depth (items_from names b p (q ∷ qs))) ≡ new ++ text_of (item_pieces inner (items_from names b (suc p) qs))
one_step names b p q qs out middle new depth inner h e =
    let more = items_from names b (suc p) qs in
    h.leads (items.Position (canonical_position names b q) ∷ more)
    ∙ ((one_position middle inner (canonical_position names b q)).leads more ∙ ap (λ l. l ++ text_of (item_pieces inner more)) (sym e))

-- what stands behind the last position
pub last_step : (names : List Name) (b : Body) (p : ℕ) (out new : List ℕ) (depth inner : ℕ)
    → Writes (before b p) out depth new inner → out ++ text_of (item_pieces depth (items_from names b p [])) ≡ new
last_step names b p out new depth inner h =
    ap (λ l. out ++ text_of (item_pieces depth l)) (sym (append-nil (before b p))) ∙ (h.leads [] ∙ append-nil new)

-- what a loop over the positions has written, and what stands behind the last
pub all_written : (names : List Name) (b : Body) (place count : ℕ) (text out new : List ℕ) (inner last : ℕ)
    → text ≡ out ++ text_of (item_pieces inner (items_from names b place (drop place b.positions))) → count ≡ length b.positions → place ≤ count → count ≤ place
    → Writes (before b count) out inner new last → new ≡ text
all_written names b place count text out new inner last h e k l w =
    let same : place ≡ count = omega arith in
    let gone : drop place b.positions ≡ [] = drop_all place b.positions (omega arith) in
    sym (h
    ∙ (ap (λ (qs : List Position). out ++ text_of (item_pieces inner (items_from names b place qs))) gone
    ∙ (ap (λ (p : ℕ). out ++ text_of (item_pieces inner (items_from names b p []))) same ∙ last_step names b count out new inner last w)))

-- the parts of what stands before a position
pub before_written : (b : Body) (p : ℕ) (out one two three new : List ℕ) (depth first second third : ℕ)
    → Writes (replicate (how_many p (lasts b.regions)) items.End) out depth one first
    → Writes (replicate (how_many p (mids b.regions)) items.Catch) one first two first
    → Writes (replicate (how_many p (firsts b.regions)) items.Try) two first three second
    → Writes (label_item (label_at b.positions p)) three second new third
    → Writes (before b p) out depth new third
before_written b p out one two three new depth first second third e c t l =
    writes_both _ _ out three new depth second third
    (writes_both _ _ out one three depth first second e (writes_both _ _ one two three first first second c t)) l

-- ---- one more of a kind

suc_is : (n : ℕ) → suc n ≡ n + 1
suc_is n = omega arith

pub ends_more : (n : ℕ) (old out new : List ℕ) (depth inner next : ℕ) → Writes (replicate n items.End) old depth out inner → next ≡ inner - 1
    → new ≡ out ++ text_of (line next (Mark 125) ∷ []) → Writes (replicate (n + 1) items.End) old depth new next
ends_more n old out new depth inner next h e w =
    let k : next ≡ outer inner = e ∙ sym (outer_is inner) in
    let one : Writes (items.End ∷ []) out inner new next =
    subst₂ (λ (o : List ℕ) (d : ℕ). Writes (items.End ∷ []) out inner o d) (ap (λ d. out ++ text_of (line d (Mark 125) ∷ [])) (sym k) ∙ sym w) (sym k) (one_end out inner) in
    subst (λ (is : List ItemParts). Writes is old depth new next) (replicate_more n items.End)
    (writes_both (replicate n items.End) (items.End ∷ []) old out new depth inner next h one)

pub catches_more : (n : ℕ) (old out new : List ℕ) (depth next : ℕ) → Writes (replicate n items.Catch) old depth out depth → next ≡ depth - 1
    → new ≡ out ++ catch_text next → Writes (replicate (n + 1) items.Catch) old depth new depth
catches_more n old out new depth next h e w =
    let k : next ≡ outer depth = e ∙ sym (outer_is depth) in
    let one : Writes (items.Catch ∷ []) out depth new depth =
    subst (λ (o : List ℕ). Writes (items.Catch ∷ []) out depth o depth) (ap (λ d. out ++ catch_text d) (sym k) ∙ sym w) (one_catch out depth) in
    subst (λ (is : List ItemParts). Writes is old depth new depth) (replicate_more n items.Catch)
    (writes_both (replicate n items.Catch) (items.Catch ∷ []) old out new depth depth depth h one)

pub tries_more : (n : ℕ) (old out new : List ℕ) (depth inner next : ℕ) → Writes (replicate n items.Try) old depth out inner
    → new ≡ out ++ try_text inner → next ≡ inner + 1 → Writes (replicate (n + 1) items.Try) old depth new next
tries_more n old out new depth inner next h w e =
    let one : Writes (items.Try ∷ []) out inner new next =
    subst₂ (λ (o : List ℕ) (d : ℕ). Writes (items.Try ∷ []) out inner o d) (sym w) (suc_is inner ∙ sym e) (one_try out inner) in
    subst (λ (is : List ItemParts). Writes is old depth new next) (replicate_more n items.Try)
    (writes_both (replicate n items.Try) (items.Try ∷ []) old out new depth inner next h one)

pub label_written : (out new : List ℕ) (depth label : ℕ) → new ≡ out ++ text_of (line depth (Word (label_called label)) ∷ tight (Mark 58) ∷ [])
    → Writes (label_item (Some label)) out depth new depth
label_written out new depth label w = subst (λ (o : List ℕ). Writes (items.Label (label_called label) ∷ []) out depth o depth) (sym w) (one_label out depth label)
