-- Items of a body that were taken one after the other, and what is left of it.
use Rattle.std.proofs.Common.{◌≡◌, Bool, true, false, List, [], ◌∷◌, ◌++◌, refl, sym, ap, ◌∙◌, append_assoc, append-nil, codes, Err}
use Rattle.hhas_lex.specs.Tokens.{Token, Directive, Mark}
use Rattle.hhbc_repo.specs.declared.parts.ItemParts.{ItemParts}
use Rattle.hhbc_repo.specs.declared.parts.ItemParts.TheVariants as parts
use Rattle.hhbc_repo.specs.BodySyntax as body
use Rattle.hhbc_repo.specs.BodySyntax.{AnItemList, parts_of}
use Rattle.hhbc_repo.specs.Languages.{Lang, Both, Ended}
use Rattle.hhas_read.specs.declared.open_bodies.OpenBody.{OpenBody}
use Rattle.hhas_read.specs.declared.open_bodies.OpenBody.TheVariants as bodies
use Rattle.hhas_read.specs.declared.reader.Stop.{Stop}
use Rattle.hhas_read.specs.Reading.{Placed, Past, Follow, Taken, Reads, Viable, any}
use Rattle.hhas_read.proofs.Joining.{Lawful, LeadsOn, all_append, both_resumes, both_stop}
use Rattle.hhas_read.proofs.Nesting.{AfterCatch, AfterTry, Block, Closes, brace}
use Rattle.hhas_read.proofs.Resuming.{Resumes, past_none, past_on, resumes_same, resumes_then, stop_lifts}
use Rattle.hhas_read.proofs.PositionLaws.{position_law}

-- the items of a body and its closing brace
abbrev pub WholeList : Lang (List ItemParts)
WholeList = Ended AnItemList (Mark 125 ∷ [])

-- ---- something goes on from everywhere

pub some_block : (K : Lang (List ItemParts)) → Viable K [] → (needed : Bool) → Viable (Block needed K) []
some_block K k needed =
    let p = position_law.some in
    record {
      more = p.more ++ k.more;
      value = parts.Position p.value ∷ k.value;
      word = record {
        nested = body.Position p.value body.Done;
        first = p.more ++ [];
        rest = k.more;
        more = k.value;
        word = (p.more, [], p.word, refl, refl);
        code = λ e. refl;
        behind = k.word;
        tokens = ap (λ l. l ++ k.more) (sym (append-nil p.more));
        told = refl;
      };
      proper = all_append p.more k.more p.proper k.proper;
    }

pub some_after_catch : (M : Lang (List ItemParts)) → Viable M [] → Viable (AfterCatch M) []
some_after_catch M m = record {
  more = brace ∷ m.more;
  value = parts.End ∷ m.value;
  word = record { value = (tt, m.value); word = record { first = brace ∷ []; second = m.more; left = refl; right = m.word; tokens = refl }; is = refl };
  proper = m.proper;
}

pub some_after_try : (M : Lang (List ItemParts)) → Viable M [] → Viable (AfterTry M) []
some_after_try M m =
    let b = some_block (AfterCatch M) (some_after_catch M m) true in
    record {
      more = brace ∷ Directive (codes "catch") ∷ Mark 123 ∷ b.more;
      value = parts.Catch ∷ b.value;
      word = record {
        value = (tt, b.value);
        word = record { first = brace ∷ Directive (codes "catch") ∷ Mark 123 ∷ []; second = b.more; left = (refl, refl); right = b.word; tokens = refl };
        is = refl;
      };
      proper = b.proper;
    }

pub some_closing : (opened : List OpenBody) → Viable (Closes opened) []
some_closing [] = record { more = brace ∷ []; value = []; word = record { value = tt; word = refl; is = refl }; proper = refl }
some_closing (bodies.Try ∷ opened) = some_after_try (Block false (Closes opened)) (some_block (Closes opened) (some_closing opened) false)
some_closing (bodies.Catch ∷ opened) = some_after_catch (Block false (Closes opened)) (some_block (Closes opened) (some_closing opened) false)

pub some_left : (opened : List OpenBody) (needed : Bool) → Viable (Block needed (Closes opened)) []
some_left opened needed = some_block (Closes opened) (some_closing opened) needed

-- ---- one turn

-- items were taken, and M is left
abbrev pub Inside : Placed → Placed → Lang (List ItemParts) → List ItemParts → Type 0
Inside start now M items = (used : List Token) × Past used start now × Resumes any WholeList used M (λ ys. items ++ ys) now.tokens

pub outside : (start : Placed) → Inside start start (Block false (Closes [])) []
outside start = (
  [],
  past_none start,
  record {
    on = λ ts u b. record {
      first = b.first;
      word = record { nested = b.nested; word = b.word; parts = b.told ∙ ap (λ l. parts_of b.nested ++ l) b.behind.is ∙ append-nil (parts_of b.nested) };
      tokens = b.tokens ∙ ap (λ l. b.first ++ l) b.behind.word;
    };
    back = λ w v x y n o h e. (
      w,
      v,
      record {
        nested = n.word.nested;
        first = n.first;
        rest = brace ∷ [];
        more = [];
        word = n.word.word;
        code = λ d. absurd (cc d);
        behind = record { value = tt; word = refl; is = refl };
        tokens = n.tokens;
        told = n.word.parts ∙ sym (append-nil (parts_of n.word.nested));
      },
      refl,
      refl,
    );
  },
)

-- what is left is a part that A spells, and then M
module _ {V : Type 0} (G : Follow) (A : Lang V) (item : V → ItemParts) (M N : Lang (List ItemParts)) (leads : LeadsOn any N G) where
  abbrev One : List Token → Type 0
  One left = Resumes any M [] (Both A N) (λ p. item p.0 ∷ p.1) left

  pub item_taken : Lawful G A → (start old mid : Placed) (items more : List ItemParts) (a : V) → Inside start old M items → One old.tokens → Taken G A old mid a
      → more ≡ items ++ item a ∷ [] → Inside start mid N more
  item_taken law start old mid items more a inv one t pushed =
      let step : Resumes any M t.used N (λ ys. item a ∷ ys) mid.tokens =
      resumes_then any M (Both A N) N [] t.used old.tokens mid.tokens (λ p. item p.0 ∷ p.1) (λ ys. (a, ys)) one (both_resumes any G A N leads old mid a law t) t.past.tokens in (
        inv.0 ++ t.used,
        past_on inv.1 t.past,
        resumes_same any WholeList N (inv.0 ++ t.used) mid.tokens (λ ys. items ++ (item a ∷ ys)) (λ ys. more ++ ys)
            (λ ys. sym (ap (λ l. l ++ ys) pushed ∙ append_assoc items (item a ∷ []) ys))
            (resumes_then any WholeList M N inv.0 t.used old.tokens mid.tokens (λ ys. items ++ ys) (λ ys. item a ∷ ys) inv.2 step t.past.tokens),
      )

  pub item_stops : Viable N [] → (start old new : Placed) (items : List ItemParts) (e : Stop) → Inside start old M items → One old.tokens → Reads G A old (Err e) new
      → Reads any WholeList start (Err e) new
  item_stops some start old new items e inv one s =
      stop_lifts any WholeList M start old new inv.0 (λ ys. items ++ ys) e inv.2 inv.1
      (stop_lifts any M (Both A N) old old new [] (λ p. item p.0 ∷ p.1) e one (past_none old) (both_stop any G A N leads old new e some s))
