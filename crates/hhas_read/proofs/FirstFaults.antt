-- What is read of a text is what it spells, and where reading stops its first fault is.
use Rattle.std.proofs.Common.{◌≡◌, ℕ, ◌<◌, refl, sym, ap, subst, ◌∙◌, true, List, [], ◌∷◌, ◌++◌, length, drop, get_or, Some, append_assoc, length-append, arith}
use Rattle.std.specs.List.{list_all, slice_get}
use Rattle.std.proofs.lemmas.List.{get_or-drop}
use Rattle.std.proofs.lemmas.Option.{slice_get-get_or}
use Rattle.hhas_lex.specs.Spelling.{is_proper}
use Rattle.hhas_lex.specs.Tokens.{Token, Directive, Word, Local, Integer, Str, Mark, LessEqual, End, Bad, tokens, places, front, front_place}
use Rattle.hhas_lex.proofs.Ending.{places-each}
use Rattle.hhbc_repo.specs.Languages.{Lang, Behind, Ended}
use Rattle.hhbc_repo.specs.LinkFaults.{Whole}
use Rattle.hhbc_repo.specs.TextSyntax.{AText, FirstFault, IsFront, Spells}
use Rattle.hhas_read.specs.TextWithoutEnd.{DeclaredText, is_end}
use Rattle.hhas_read.specs.Reading.{Placed, Dead, StuckAt, Taken, Viable, next}
use Rattle.hhas_read.proofs.Endings.{parted, spaced, spaced-tokens}
use Rattle.hhas_read.proofs.Joining.{Lawful, all_append}

-- ---- a text is declarations and the end

module _ {V : Type 0} (words : List Token) (A : Lang V) (end : List Token) where
  behind-ended : (ts : List Token) (v : V) → Behind words (Ended A end) ts v → Ended (Behind words A) end ts v
  behind-ended ts v k = record {
    first = words ++ k.word.first;
    word = record { rest = k.word.first; word = k.word.word; tokens = refl };
    tokens = k.tokens ∙ ap (λ l. words ++ l) k.word.tokens ∙ sym (append_assoc words k.word.first end);
  }

  ended-behind : (ts : List Token) (v : V) → Ended (Behind words A) end ts v → Behind words (Ended A end) ts v
  ended-behind ts v k = record {
    rest = k.word.rest ++ end;
    word = record { first = k.word.rest; word = k.word.word; tokens = refl };
    tokens = k.tokens ∙ ap (λ l. l ++ end) k.word.tokens ∙ append_assoc words k.word.rest end;
  }

pub text-ended : (ts : List Token) (r : Whole) → AText ts r → Ended DeclaredText (End ∷ []) ts r
text-ended ts r k =
    let e = behind-ended _ _ (End ∷ []) ts k.declared k.word in
    record {
      first = e.first;
      word = record { declared = k.declared; word = e.word; functions = k.functions; classes = k.classes };
      tokens = e.tokens;
    }

pub ended-text : (ts : List Token) (r : Whole) → Ended DeclaredText (End ∷ []) ts r → AText ts r
ended-text ts r k = record {
  declared = k.word.declared;
  word = ended-behind _ _ (End ∷ []) ts k.word.declared (record { first = k.first; word = k.word.word; tokens = k.tokens });
  functions = k.word.functions;
  classes = k.word.classes;
}

-- ---- what is read is spelled

end-alone : (t : Token) → is_end t ≡ true → t ≡ End
end-alone End e = refl
end-alone Bad e = absurd (cc)
end-alone (Directive w) e = absurd (cc)
end-alone (Word w) e = absurd (cc)
end-alone (Local w) e = absurd (cc)
end-alone (Integer i) e = absurd (cc)
end-alone (Str s) e = absurd (cc)
end-alone (Mark m) e = absurd (cc)
end-alone LessEqual e = absurd (cc)

end-there : (ts : List Token) → is_end (front ts) ≡ true → ts ≡ End ∷ drop 1 ts
end-there [] e = absurd (cc)
end-there (t ∷ ts) e = ap (λ z. z ∷ ts) (end-alone t e)

pub taken_spells : (bytes : List ℕ) (old new : Placed) (r : Whole) → old.tokens ≡ tokens bytes → Taken is_end DeclaredText old new r → Spells bytes r
taken_spells bytes old new r are k =
    let there : tokens bytes ≡ k.used ++ End ∷ drop 1 new.tokens = sym are ∙ k.past.tokens ∙ ap (λ l. k.used ++ l) (end-there new.tokens k.follows) in
    let none : drop 1 new.tokens ≡ [] = (parted bytes k.used (drop 1 new.tokens) End there).alone refl in
    ended-text (tokens bytes) r (record { first = k.used; word = k.word; tokens = there ∙ ap (λ l. k.used ++ End ∷ l) none })

-- ---- what leads on is the front of a text, and what doesn't of none

viable-front : (read : List Token) → list_all is_proper read ≡ true → Viable DeclaredText read → IsFront read
viable-front read h k =
    let whole = read ++ k.more in
    let are = spaced-tokens whole (all_append read k.more h k.proper) in
    record {
      bytes = spaced whole;
      parts = k.value;
      more = k.more ++ End ∷ [];
      spells = ended-text (tokens (spaced whole)) k.value (record { first = whole; word = k.word; tokens = are });
      begins = are ∙ append_assoc read k.more (End ∷ []);
    }

dead-none : (read : List Token) (t : Token) → Dead is_end DeclaredText (read ++ t ∷ []) → IsFront (read ++ t ∷ []) → ⊥
dead-none read t d f =
    let k = text-ended (tokens f.bytes) f.parts f.spells in
    d k.first f.parts (End ∷ []) f.more k.word refl (sym k.tokens ∙ f.begins)

-- ---- the place of the next token

front-got : (ps : List ℕ) → front_place ps ≡ get_or ps 0 0
front-got [] = refl
front-got (p ∷ ps) = refl

place-at : (ps : List ℕ) (n : ℕ) → n < length ps → slice_get ps n ≡ Some (front_place (drop n ps))
place-at ps n h =
    let same : get_or ps n 0 ≡ front_place (drop n ps) = ap (λ m. get_or ps m 0) (omega arith) ∙ sym (get_or-drop n ps 0 0) ∙ sym (front-got (drop n ps)) in
    slice_get-get_or ps n 0 h ∙ ap Some same

longer : (ts a b : List Token) (t : Token) → ts ≡ a ++ t ∷ b → length a < length ts
longer ts a b t e = omega (arith, ap length e, length-append a (t ∷ b))

pub stuck_faults : (bytes : List ℕ) (old new : Placed) → old.tokens ≡ tokens bytes → old.places ≡ places 0 bytes → new.tokens ≡ next new ∷ drop 1 new.tokens
    → StuckAt is_end DeclaredText old new → FirstFault bytes (front_place new.places)
stuck_faults bytes old new are placed some k =
    let there : tokens bytes ≡ k.read ++ next new ∷ drop 1 new.tokens = sym are ∙ k.past.tokens ∙ ap (λ l. k.read ++ l) some in
    let least : length k.read < length (places 0 bytes) =
    subst (λ n. length k.read < n) (sym (places-each 0 bytes)) (longer (tokens bytes) k.read (drop 1 new.tokens) (next new) there) in
    record {
      read = k.read;
      token = next new;
      more = drop 1 new.tokens;
      tokens = there;
      place = place-at (places 0 bytes) (length k.read) least ∙ ap (λ ps. Some (front_place ps)) (ap (drop (length k.read)) (sym placed) ∙ sym k.past.places);
      front = viable-front k.read (parted bytes k.read (drop 1 new.tokens) (next new) there).proper k.viable;
      none = dead-none k.read (next new) k.dead;
    }

-- ---- a text spells one repository, or has one fault

pub spells_one : Lawful is_end DeclaredText → (bytes : List ℕ) (r s : Whole) → Spells bytes r → Spells bytes s → r ≡ s
spells_one law bytes r s m n =
    let a = text-ended (tokens bytes) r m in
    let b = text-ended (tokens bytes) s n in
    (law.same a.first b.first (End ∷ []) (End ∷ []) r s a.word b.word refl refl (sym a.tokens ∙ b.tokens)).1

front-shorter : (a b : List Token) → IsFront (a ++ b) → IsFront a
front-shorter a b k = record { bytes = k.bytes; parts = k.parts; more = b ++ k.more; spells = k.spells; begins = k.begins ∙ append_assoc a b k.more }

-- two splits of one list: the first stands within the second, or the other way round, or they are the same
data Split (a : List Token) (t : Token) (b : List Token) (u : Token) : Type 0 where
  Within : (m : List Token) → b ≡ (a ++ t ∷ []) ++ m → Split a t b u
  Beyond : (m : List Token) → a ≡ (b ++ u ∷ []) ++ m → Split a t b u
  There : a ≡ b → Split a t b u

split-later : (a b : List Token) (t u x : Token) → Split a t b u → Split (x ∷ a) t (x ∷ b) u
split-later a b t u x (Within m e) = Within m (ap (λ l. x ∷ l) e)
split-later a b t u x (Beyond m e) = Beyond m (ap (λ l. x ∷ l) e)
split-later a b t u x (There e) = There (ap (λ l. x ∷ l) e)

split-two : (a b m n : List Token) (t u : Token) → a ++ t ∷ m ≡ b ++ u ∷ n → Split a t b u
split-two [] [] m n t u e = There refl
split-two [] (y ∷ b) m n t u e = Within b (let s : y ≡ t = sym (cc) in ap (λ z. z ∷ b) s)
split-two (x ∷ a) [] m n t u e = Beyond a (let s : x ≡ u = cc in ap (λ z. z ∷ a) s)
split-two (x ∷ a) (y ∷ b) m n t u e =
    let s : x ≡ y = cc in
    subst (λ z. Split (x ∷ a) t (z ∷ b) u) s (split-later a b t u x (split-two a b m n t u (cc)))

some-same : (a b : ℕ) → Some a ≡ Some b → a ≡ b
some-same a b e = cc

pub fault_one : (bytes : List ℕ) (a b : ℕ) → FirstFault bytes a → FirstFault bytes b → a ≡ b
fault_one bytes a b f g = elim (split-two f.read g.read f.more g.more f.token g.token (sym f.tokens ∙ g.tokens)) [
  | Within m e ↦ absurd (f.none (front-shorter (f.read ++ f.token ∷ []) m (subst IsFront e g.front)))
  | Beyond m e ↦ absurd (g.none (front-shorter (g.read ++ g.token ∷ []) m (subst IsFront e f.front)))
  | There e ↦ some-same a b (sym f.place ∙ ap (λ l. slice_get (places 0 bytes) (length l)) e ∙ g.place)
]
