-- What each item leaves of a body.
use Rattle.std.proofs.Common.{◌≡◌, ℕ, Bool, true, false, List, [], ◌∷◌, ◌++◌, refl, sym, ◌∙◌, append-nil, codes, subst, Err, Bor}
use Rattle.hhas_lex.specs.Tokens.{Directive, Word, Mark}
use Rattle.hhbc_repo.specs.declared.parts.ItemParts.{ItemParts}
use Rattle.hhbc_repo.specs.declared.parts.ItemParts.TheVariants as parts
use Rattle.hhbc_repo.specs.declared.parts.PositionParts.{PositionParts}
use Rattle.hhbc_repo.specs.BodySyntax as body
use Rattle.hhbc_repo.specs.BodySyntax.{APosition}
use Rattle.hhbc_repo.specs.CodeSyntax.{ALabel, is_reserved}
use Rattle.hhbc_repo.specs.Languages.{Lang, Both, Means}
use Rattle.hhas_read.specs.declared.open_bodies.OpenBody.{OpenBody}
use Rattle.hhas_read.specs.declared.open_bodies.OpenBody.TheVariants as bodies
use Rattle.hhas_read.specs.declared.reader.Piece.{Piece}
use Rattle.hhas_read.specs.declared.reader.Piece.TheVariants as pieces
use Rattle.hhas_read.specs.declared.reader.Stop.{Stop}
use Rattle.hhas_read.specs.Nesting.{CatchOpening, Opening}
use Rattle.hhas_read.specs.Pieces.{Says as PieceSays}
use Rattle.hhas_read.specs.Reading.{Placed, StuckAt, Taken, Reads, Viable, Just, any, next}
use Rattle.hhas_read.specs.Written.{ends_type}
use Rattle.hhas_read.proofs.ArmForms.{label_lawful}
use Rattle.hhas_read.proofs.ItemTurns.{Inside, WholeList, item_stops, item_taken, some_block, some_closing, some_left}
use Rattle.hhas_read.proofs.Joining.{Lawful, ended_lawful, means_resumes}
use Rattle.hhas_read.proofs.Nesting.{AfterCatch, AfterTry, Block, Braced, Closes, after_catch_braced, after_try_braced, brace, closes_braced}
use Rattle.hhas_read.proofs.NextItem.{ALabelled, ends_block, label_next, leads_on, position_next}
use Rattle.hhas_read.proofs.NextTry.{try_next}
use Rattle.hhas_read.proofs.OneToken.{just_lawful}
use Rattle.hhas_read.proofs.Resuming.{Resumes, past_none, resumes_then, stop_lifts, stuck_lifts, taken_lifts}
use Rattle.hhas_read.proofs.Said.{not_word}
use Rattle.hhas_read.proofs.PositionLaws.{position_law}

-- ---- fixed tokens stand apart from what follows them

pub labelled_law : Lawful any ALabelled
labelled_law = ended_lawful any any ALabel (Mark 58) [] refl refl label_lawful

pub try_opening_law : Lawful any (Opening (codes "try"))
try_opening_law = record {
  same = λ a b x y u w n m o p d. (n.0 ∙ sym m.0, refl);
  some = record { more = Directive (codes "try") ∷ Mark 123 ∷ []; value = tt; word = (refl, refl); proper = refl };
}

pub catch_opening_law : Lawful any CatchOpening
catch_opening_law = record {
  same = λ a b x y u w n m o p d. (n.0 ∙ sym m.0, refl);
  some = record { more = Mark 125 ∷ Directive (codes "catch") ∷ Mark 123 ∷ []; value = tt; word = (refl, refl); proper = refl };
}

-- ---- neither a word nor a try is next

abbrev pub NoItem : Placed → Type 0
NoItem p = ((w : List ℕ) → next p ≡ Word w → ⊥) × (next p ≡ Directive (codes "try") → ⊥)

pub no_item : (p : Placed) (piece : Piece) → PieceSays piece (next p) → ((b : Bor (List ℕ)) → piece ≡ pieces.Word b → ⊥) → (next p ≡ Directive (codes "try") → ⊥) → NoItem p
no_item p piece says other no_try = (λ w e. not_word piece (next p) says other w e, no_try)

-- what is left ends the block
pub ends_with : {W : Type 0} (f : W → List ItemParts) (A : Lang W) → Braced (Means f A) → (p : Placed) → NoItem p → Resumes any (Block false (Means f A)) [] A f p.tokens
ends_with f A braced p other =
    let K = Means f A in
    let at_end : Resumes any (Block false K) [] K (λ xs. xs) p.tokens = record {
      on = λ ts u k. record { nested = body.Done; first = []; rest = ts; more = u; word = refl; code = λ d. absurd (cc d); behind = k; tokens = refl; told = refl };
      back = λ w v x y b o h e. (w, v, (ends_block false K braced p.tokens other.0 other.1 w v x y b h e).1, refl, refl);
    } in
    resumes_then any (Block false K) K A [] [] p.tokens p.tokens (λ xs. xs) f at_end (means_resumes any f A p.tokens) refl

-- a position or a try is still needed
pub lacks_code : (K : Lang (List ItemParts)) → Braced K → Viable K [] → (p : Placed) → NoItem p → StuckAt any (Block true K) p p
lacks_code K braced some p other = record {
  read = [];
  past = past_none p;
  viable = some_block K some true;
  dead = λ w v x y b o d. absurd (cc (ends_block true K braced p.tokens other.0 other.1 w v x (next p ∷ y) b refl d).0);
}

-- ---- each item

module _ (start old : Placed) (opened : List OpenBody) (items : List ItemParts) where
  abbrev K : Lang (List ItemParts)
  K = Closes opened

  abbrev B : Bool → Lang (List ItemParts)
  B needed = Block needed K

  pub known : (needed now : Bool) (before : List OpenBody) → needed ≡ now → before ≡ opened → Inside start old (Block needed (Closes before)) items → Inside start old (B now) items
  known needed now before e f inv =
      subst (λ b. Inside start old (B b) items) e (subst (λ o. Inside start old (Block needed (Closes o)) items) f inv)

  pub label_taken : (needed : Bool) (mid : Placed) (more : List ItemParts) (w a : List ℕ) → Inside start old (B needed) items → next old ≡ Word w → is_reserved w ≡ false
      → Taken any ALabelled old mid a → more ≡ items ++ parts.Label a ∷ [] → Inside start mid (B needed) more
  label_taken needed mid more w a inv is free t pushed =
      item_taken any ALabelled parts.Label (B needed) (B needed) (λ b v x n o. refl) labelled_law start old mid items more a inv
      (label_next needed K (closes_braced opened) w old.tokens is free) t pushed

  pub label_stops : (needed : Bool) (new : Placed) (w : List ℕ) (e : Stop) → Inside start old (B needed) items → next old ≡ Word w → is_reserved w ≡ false
      → Reads any ALabelled old (Err e) new → Reads any WholeList start (Err e) new
  label_stops needed new w e inv is free s =
      item_stops any ALabelled parts.Label (B needed) (B needed) (λ b v x n o. refl) (some_left opened needed) start old new items e inv
      (label_next needed K (closes_braced opened) w old.tokens is free) s

  pub position_taken : (needed : Bool) (mid : Placed) (more : List ItemParts) (w : List ℕ) (p : PositionParts) → Inside start old (B needed) items → next old ≡ Word w → is_reserved w ≡ true
      → Taken ends_type APosition old mid p → more ≡ items ++ parts.Position p ∷ [] → Inside start mid (B false) more
  position_taken needed mid more w p inv is taken t pushed =
      item_taken ends_type APosition parts.Position (B needed) (B false) (leads_on false K (closes_braced opened)) position_law start old mid items more p inv
      (position_next needed K (closes_braced opened) w old.tokens is taken) t pushed

  pub position_stops : (needed : Bool) (new : Placed) (w : List ℕ) (e : Stop) → Inside start old (B needed) items → next old ≡ Word w → is_reserved w ≡ true
      → Reads ends_type APosition old (Err e) new → Reads any WholeList start (Err e) new
  position_stops needed new w e inv is taken s =
      item_stops ends_type APosition parts.Position (B needed) (B false) (leads_on false K (closes_braced opened)) (some_left opened false) start old new items e inv
      (position_next needed K (closes_braced opened) w old.tokens is taken) s

  pub try_taken : (needed : Bool) (mid : Placed) (more : List ItemParts) (u : Unit {0}) (within : List OpenBody) → Inside start old (B needed) items → next old ≡ Directive (codes "try")
      → Taken any (Opening (codes "try")) old mid u → within ≡ bodies.Try ∷ opened → more ≡ items ++ parts.Try ∷ [] → Inside start mid (Block true (Closes within)) more
  try_taken needed mid more u within inv is t e pushed =
      subst (λ o. Inside start mid (Block true (Closes o)) more) (sym e)
      (item_taken any (Opening (codes "try")) (λ u. parts.Try) (B needed) (Block true (AfterTry (B false))) (λ b v x n o. refl) try_opening_law start old mid items more u inv
      (try_next K needed (closes_braced opened) old.tokens is) t pushed)

  pub try_stops : (needed : Bool) (new : Placed) (e : Stop) → Inside start old (B needed) items → next old ≡ Directive (codes "try")
      → Reads any (Opening (codes "try")) old (Err e) new → Reads any WholeList start (Err e) new
  try_stops needed new e inv is s =
      item_stops any (Opening (codes "try")) (λ u. parts.Try) (B needed) (Block true (AfterTry (B false))) (λ b v x n o. refl) (some_left (bodies.Try ∷ opened) true)
      start old new items e inv (try_next K needed (closes_braced opened) old.tokens is) s

  pub code_stops : Inside start old (B true) items → NoItem old → StuckAt any WholeList start old
  code_stops inv other =
      stuck_lifts any WholeList (B true) start old old inv.0 (λ ys. items ++ ys) inv.2 inv.1 (lacks_code K (closes_braced opened) (some_closing opened) old other)

  pub catch_taken : (mid : Placed) (more : List ItemParts) (u : Unit {0}) (within : List OpenBody) → Inside start old (Block false (AfterTry (B false))) items → NoItem old
      → Taken any CatchOpening old mid u → within ≡ bodies.Catch ∷ opened → more ≡ items ++ parts.Catch ∷ [] → Inside start mid (Block true (Closes within)) more
  catch_taken mid more u within inv other t e pushed =
      subst (λ o. Inside start mid (Block true (Closes o)) more) (sym e)
      (item_taken any CatchOpening (λ u. parts.Catch) (Block false (AfterTry (B false))) (Block true (AfterCatch (B false))) (λ b v x n o. refl) catch_opening_law start old mid items more u inv
      (ends_with (λ p. parts.Catch ∷ p.1) (Both CatchOpening (Block true (AfterCatch (B false)))) (after_try_braced (B false)) old other) t pushed)

  pub catch_stops : (new : Placed) (e : Stop) → Inside start old (Block false (AfterTry (B false))) items → NoItem old
      → Reads any CatchOpening old (Err e) new → Reads any WholeList start (Err e) new
  catch_stops new e inv other s =
      item_stops any CatchOpening (λ u. parts.Catch) (Block false (AfterTry (B false))) (Block true (AfterCatch (B false))) (λ b v x n o. refl) (some_left (bodies.Catch ∷ opened) true)
      start old new items e inv (ends_with (λ p. parts.Catch ∷ p.1) (Both CatchOpening (Block true (AfterCatch (B false)))) (after_try_braced (B false)) old other) s

  pub end_taken : (mid : Placed) (more : List ItemParts) (u : Unit {0}) → Inside start old (Block false (AfterCatch (B false))) items → NoItem old
      → Taken any (Just brace) old mid u → more ≡ items ++ parts.End ∷ [] → Inside start mid (B false) more
  end_taken mid more u inv other t pushed =
      item_taken any (Just brace) (λ u. parts.End) (Block false (AfterCatch (B false))) (B false) (λ b v x n o. refl) (just_lawful any brace refl) start old mid items more u inv
      (ends_with (λ p. parts.End ∷ p.1) (Both (Just brace) (B false)) (after_catch_braced (B false)) old other) t pushed

  pub end_stops : (new : Placed) (e : Stop) → Inside start old (Block false (AfterCatch (B false))) items → NoItem old
      → Reads any (Just brace) old (Err e) new → Reads any WholeList start (Err e) new
  end_stops new e inv other s =
      item_stops any (Just brace) (λ u. parts.End) (Block false (AfterCatch (B false))) (B false) (λ b v x n o. refl) (some_left opened false)
      start old new items e inv (ends_with (λ p. parts.End ∷ p.1) (Both (Just brace) (B false)) (after_catch_braced (B false)) old other) s

-- ---- the end

module _ (start old new : Placed) (items : List ItemParts) (inv : Inside start old (Block false (Closes [])) items) (other : NoItem old) where
  abbrev Last : Lang (List ItemParts)
  Last = Block false (Closes [])

  at_end : Resumes any Last [] (Just brace) (λ u. []) old.tokens
  at_end = ends_with (λ u. []) (Just brace) (closes_braced []) old other

  pub list_taken : (u : Unit {0}) → Taken any (Just brace) old new u → Taken any WholeList start new items
  list_taken u t =
      subst (Taken any WholeList start new) (append-nil items)
      (taken_lifts any WholeList Last start old new inv.0 (λ ys. items ++ ys) [] inv.2 inv.1
      (taken_lifts any Last (Just brace) old old new [] (λ u. []) u at_end (past_none old) t))

  pub list_stops : (e : Stop) → Reads any (Just brace) old (Err e) new → Reads any WholeList start (Err e) new
  list_stops e s =
      stop_lifts any WholeList Last start old new inv.0 (λ ys. items ++ ys) e inv.2 inv.1
      (stop_lifts any Last (Just brace) old old new [] (λ u. []) e at_end (past_none old) s)
