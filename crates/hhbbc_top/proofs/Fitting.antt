-- Bodies of the form, and what is made of them.
use Rattle.std.proofs.Common.{◌↔◌, ◌⊎◌, ◌+◌, ◌-◌, get_or, is_some, drop, take, Contains, IsTrue, arith, ◌≡◌, ◌<◌, ◌≤◌, ℕ, suc, refl, sym, ◌∙◌, ap, subst, Bool, true, false, List, [], ◌∷◌, ◌++◌, map, length, inl, inr, Some, None, All, codes, cond, nat_eq, nat_lt, add-one, drop-cons, Result, Ok, Err, IfOk}
use Rattle.std.proofs.Math.Seq.{take-suc}
use Rattle.std.proofs.lemmas.List.{map-append}
use Rattle.std.specs.Cmp.Lexicographic.{pointwise, bytes_decides}
use Rattle.std.specs.List.{position_or_len}
use Rattle.std.proofs.lemmas.Bool.Decides.{Decides-ltb, leb_tells}
use Rattle.std.proofs.lemmas.List.Elements.{All-append, All-cons, All-head, All-nil, All-tail, Contains-append_cases, Contains-append_right, Contains-push_cases}
use Rattle.std.proofs.lemmas.List.Sums.{fails_before_first, passes_at_first}
use Rattle.type_lattice.specs.declared.types.HType.{HType}
use Rattle.hhbc_repo.specs.declared.body.Assert.{Assert}
use Rattle.hhbc_repo.specs.declared.body.Body.{Body}
use Rattle.hhbc_repo.specs.declared.body.Position.{Position}
use Rattle.hhbc_semantics.specs.Form.{AllDiffer, FitAsserts, FitsAssert, FitsClaimed, FitClaimed, IsReturn, IsSecondBody}
use Rattle.hhbc_repo.specs.Linked.{Linked}
use Rattle.hhbc_semantics.specs.PlainTypes.{Never, Cell, Uninit, Null, False, True, Bool as BoolName, Int, Str, Named, OneInt, IsPlainType, type_named}
use Rattle.hhbc_repo.specs.LinkFaults.{place_in}
use Rattle.hhbc_repo.specs.Shapes.{Types}
use Rattle.func_analyze.specs.Laws.{IsWord, AreWords}
use Rattle.hhbbc_top.specs.declared.form.Step.{Step}
use Rattle.hhbbc_top.specs.declared.form.Step.TheVariants as steps
use Rattle.hhbbc_top.specs.declared.form.Line.{Line}
use Rattle.hhbbc_top.specs.declared.form.Main.{Main}
use Rattle.hhbbc_top.specs.declared.form.Unfit.{Unfit}
use Rattle.hhbbc_top.specs.Forms.{code_of, plain, position_of}
use Rattle.hhbbc_top.specs.Mains.{AreCodes, AreLines, IsHead, IsLine, IsMainIn, IsMainOf, IsNamed, IsOneInt, ends_from, is_return, returns_last}

wrong : IsTrue false → ⊥
wrong h = absurd (cc h)

-- a type that a word names, but for these words
pub only-str : (t : HType) (r : Bool) → IsTrue false ↔ (t ≡ type_named Never) → IsTrue false ↔ (t ≡ type_named Cell) → IsTrue false ↔ (t ≡ type_named Uninit) → IsTrue false ↔ (t ≡ type_named Null) → IsTrue false ↔ (t ≡ type_named False) → IsTrue false ↔ (t ≡ type_named True) → IsTrue false ↔ (t ≡ type_named BoolName) → IsTrue false ↔ (t ≡ type_named Int) → IsTrue r ↔ (t ≡ type_named Str) → IsNamed t → IsTrue r
only-str t r a b c d e f g h k (Never, x) = absurd (wrong (a.1 x))
only-str t r a b c d e f g h k (Cell, x) = absurd (wrong (b.1 x))
only-str t r a b c d e f g h k (Uninit, x) = absurd (wrong (c.1 x))
only-str t r a b c d e f g h k (Null, x) = absurd (wrong (d.1 x))
only-str t r a b c d e f g h k (False, x) = absurd (wrong (e.1 x))
only-str t r a b c d e f g h k (True, x) = absurd (wrong (f.1 x))
only-str t r a b c d e f g h k (BoolName, x) = absurd (wrong (g.1 x))
only-str t r a b c d e f g h k (Int, x) = absurd (wrong (h.1 x))
only-str t r a b c d e f g h k (Str, x) = k.1 x

-- a plain type is one that a word names, or that of one int
pub plain-or : (t : HType) → IsPlainType t → IsNamed t ⊎ IsOneInt t
plain-or t (Named n, e) = inl (n, e)
plain-or t (OneInt i, e) = inr (i, e)

pub named-plain : (t : HType) → IsNamed t → IsPlainType t
named-plain t h = (Named h.0, h.1)

pub one-plain : (t : HType) → IsOneInt t → IsPlainType t
one-plain t h = (OneInt h.0, h.1)

pub plain-named : (t : HType) (b : Bool) → IsTrue b ↔ IsNamed t → IsTrue b → IsTrue b ↔ IsPlainType t
plain-named t b h s = (λ k. named-plain t (h.0 k), λ p. s)

differ : (b : Bool) → b ≡ false → b ≡ true → ⊥
differ b e f = absurd (cc (e, f))

pub plain-unnamed : (t : HType) (b d : Bool) → IsTrue b ↔ IsNamed t → b ≡ false → IsTrue d ↔ IsOneInt t → IsTrue d ↔ IsPlainType t
plain-unnamed t b d h not k = (λ s. one-plain t (k.0 s), λ p. elim (plain-or t p) [ inl n ↦ absurd (differ b not (h.1 n)) | inr i ↦ k.1 i ])

all-one : {X : Type 0} (P : X → Type 0) (x : X) → P x → All P (x ∷ [])
all-one P x h = All-cons P x [] h (All-nil P)

-- one line more
words-more : (ps : List Position) (p : Position) → AreWords ps → IsWord p.code → AreWords (ps ++ p ∷ [])
words-more [] p ws w = (w, tt)
words-more (q ∷ ps) p ws w = (ws.0, words-more ps p ws.1 w)

pub lines-more : (count : ℕ) (ps : List Position) (ls now : List Line) (p : Position) (l : Line) → AreLines count ps ls → IsLine count p l → now ≡ ls ++ l ∷ [] → AreLines count (ps ++ p ∷ []) now
lines-more count ps ls now p l are is e = record {
  are = (λ i. are.are i ++ (is.is i ∷ [])) ∙ sym (map-append position_of ls (l ∷ [])) ∙ ap (map position_of) (sym e);
  fit = All-append (FitsClaimed count) ps (p ∷ []) are.fit (all-one (FitsClaimed count) p is.fits);
  words = words-more ps p are.words is.word;
}

-- the last of the codes returns
return-is : (s : Step) → is_return s ≡ true → IsReturn (code_of s)
return-is steps.RetC e = refl
return-is _ e = absurd (cc)

return-not : (s : Step) → is_return s ≡ false → IsReturn (code_of s) → ⊥
return-not steps.Null e h = absurd (cc)
return-not steps.True e h = absurd (cc)
return-not steps.False e h = absurd (cc)
return-not (steps.Int i) e h = absurd (cc)
return-not steps.PopC e h = absurd (cc)
return-not (steps.SetL l) e h = absurd (cc)
return-not (steps.CGetL l) e h = absurd (cc)
return-not steps.RetC e h = absurd (cc)

ends-when : (b : Bool) (s : Step) → is_return s ≡ b → (IsReturn (code_of s) → ⊥) → b ≡ false
ends-when true s e h = absurd (h (return-is s e))
ends-when false s e h = refl

returns-when : (b : Bool) (s : Step) → is_return s ≡ b → IsReturn (code_of s) → b ≡ true
returns-when true s e h = refl
returns-when false s e h = absurd (return-not s e h)

ends-not : (b : Bool) (l : Line) (ls : List Line) → ends_from b (l ∷ ls) ≡ true → b ≡ false
ends-not true l ls e = absurd (cc)
ends-not false l ls e = refl

pub claimed-lines : (count : ℕ) (ls : List Line) → All (FitsClaimed count) (map position_of ls) → returns_last ls ≡ true → FitClaimed count (map position_of ls)
claimed-lines count [] h e = absurd (cc)
claimed-lines count (l ∷ []) h e = (All-head (FitsClaimed count) (position_of l) [] h, return-is l.step e)
claimed-lines count (l ∷ m ∷ ls) h e =
    let no : is_return l.step ≡ false = ends-not (is_return l.step) m ls e in (
      All-head (FitsClaimed count) (position_of l) (map position_of (m ∷ ls)) h,
      return-not l.step no,
      claimed-lines count (m ∷ ls) (All-tail (FitsClaimed count) (position_of l) (map position_of (m ∷ ls)) h) (ap (λ (b : Bool). ends_from b (m ∷ ls)) (sym no) ∙ e),
    )

pub claimed-last : (count : ℕ) (ls : List Line) → FitClaimed count (map position_of ls) → returns_last ls ≡ true
claimed-last count [] h = absurd h
claimed-last count (l ∷ []) h = returns-when (is_return l.step) l.step refl h.1
claimed-last count (l ∷ m ∷ ls) h =
    ap (λ (b : Bool). ends_from b (m ∷ ls)) (ends-when (is_return l.step) l.step refl h.1) ∙ claimed-last count (m ∷ ls) h.2

pub claimed-all : (count : ℕ) (ps : List Position) → FitClaimed count ps → All (FitsClaimed count) ps
claimed-all count [] h = absurd h
claimed-all count (p ∷ []) h = all-one (FitsClaimed count) p h.0
claimed-all count (p ∷ q ∷ ps) h = All-append (FitsClaimed count) (p ∷ []) (q ∷ ps) (all-one (FitsClaimed count) p h.0) (claimed-all count (q ∷ ps) h.2)

-- lists one by one
next : {X : Type 0} (xs : List X) (i : ℕ) (d : X) → i < length xs → drop i xs ≡ get_or xs i d ∷ drop (i + 1) xs
next xs i d l = rw add-one (drop-cons xs i d l)

pub one-more : {X : Type 0} (xs : List X) (i : ℕ) (x : X) → i < length xs → x ≡ get_or xs i x → take (i + 1) xs ≡ take i xs ++ x ∷ []
one-more xs i x l e = rw add-one (take-suc xs i x l ∙ ap (λ y. take i xs ++ y ∷ []) (sym e))

pub fit-turn : (count : ℕ) (xs : List Assert) (i : ℕ) (d : Assert) → i < length xs → FitsAssert count (get_or xs i d)
    → FitAsserts count (drop i xs) ↔ FitAsserts count xs → FitAsserts count (drop (i + 1) xs) ↔ FitAsserts count xs
fit-turn count xs i d l fits h = (
  (λ k. h.0 (subst (λ (ys : List Assert). FitAsserts count ys) (sym (next xs i d l)) (fits, k))),
  (λ k. (subst (λ (ys : List Assert). FitAsserts count ys) (next xs i d l) (h.1 k)).1),
)

pub unfit-turn : (count : ℕ) (xs : List Assert) (i : ℕ) (d : Assert) → i < length xs → (FitsAssert count (get_or xs i d) → ⊥)
    → FitAsserts count (drop i xs) ↔ FitAsserts count xs → FitAsserts count xs → ⊥
unfit-turn count xs i d l not h k = not (subst (λ (ys : List Assert). FitAsserts count ys) (next xs i d l) (h.1 k)).0

-- the codes of a body
pub codes_made : (count : ℕ) (ps : List Position) (ls : List Line) → AreLines count ps ls → returns_last ls ≡ true → AreCodes count ps ls
codes_made count ps ls are last =
    let e : map position_of ls ≡ ps = sym are.are in
    record {
      are = are.are;
      fit = subst (λ (qs : List Position). FitClaimed count qs) e (claimed-lines count ls (subst (λ (qs : List Position). All (FitsClaimed count) qs) (sym e) are.fit) last);
      words = are.words;
    }

pub not_last : (count : ℕ) (ps : List Position) (ls : List Line) → AreLines count ps ls → returns_last ls ≡ false → FitClaimed count ps → ⊥
not_last count ps ls are last fit =
    let yes : returns_last ls ≡ true = claimed-last count ls (subst (λ (qs : List Position). FitClaimed count qs) are.are fit) in absurd (cc (last, yes))

-- a body of the form
pub main_made : (b : Body) (m : Main) → IsHead b → AllDiffer b.locals → AreCodes (length b.locals) b.positions m.codes → m.stated ≡ b.stated → m.locals ≡ b.locals → IsMainIn b m
main_made b m h d c s l = record {
  is = λ i. record { name = h.name i; params = h.params i; locals = sym l i; iters = h.iters i; stated = sym s i; positions = c.are i; regions = h.regions i };
  second = record { name = h.name; params = h.params; iters = h.iters; stated = h.stated; regions = h.regions; differ = d; locals = h.locals; few = h.few; positions = c.fit };
  words = c.words;
}

pub head_of : (b : Body) → IsSecondBody b → IsHead b
head_of b h = record { name = h.name; params = h.params; iters = h.iters; regions = h.regions; stated = h.stated; locals = h.locals; few = h.few }

-- names that differ
contains_nothing : (x : List ℕ) → Contains [] x → ⊥
contains_nothing x h = let below : h.0 < 0 = h.1 in omega arith

contains_first : (x y : List ℕ) (ys : List (List ℕ)) → y ≡ x → Contains (y ∷ ys) x
contains_first x y ys e = (0, omega arith, e)

pub differ-push : (out : List (List ℕ)) (x : List ℕ) → AllDiffer out → (Contains out x → ⊥) → AllDiffer (out ++ x ∷ [])
differ-push [] x d fresh = (λ h. contains_nothing x h, tt)
differ-push (y ∷ ys) x d fresh =
    let inside : Contains (ys ++ x ∷ []) y → ⊥ = λ h.
    elim (Contains-push_cases ys x y h) [ inl k ↦ d.0 k | inr e ↦ fresh (contains_first x y ys (sym e)) ] in
    (inside, differ-push ys x d.1 (λ h. fresh (Contains-append_right (y ∷ []) ys x h)))

pub differ-fresh : (out : List (List ℕ)) (x : List ℕ) (xs : List (List ℕ)) → AllDiffer (out ++ x ∷ xs) → Contains out x → ⊥
differ-fresh [] x xs d h = contains_nothing x h
differ-fresh (y ∷ ys) x xs d h =
    elim (Contains-append_cases (y ∷ []) ys x h) [
      | inl k ↦ elim (Contains-push_cases [] y x k) [
        | inl n ↦ contains_nothing x n
        | inr e ↦ d.0 (Contains-append_right ys (x ∷ xs) y (contains_first y x xs (sym e)))
      ]
      | inr k ↦ differ-fresh ys x xs d.1 k
    ]

-- a name without a place is none of the names
some-choice : (b : Bool) (n : ℕ) → is_some (cond b (Some n) None) ≡ b
some-choice true n = refl
some-choice false n = refl

not-true : (b : Bool) → (b ≡ true → ⊥) → b ≡ false
not-true true h = absurd (h refl)
not-true false h = refl

abbrev first_of : List ℕ → List (List ℕ) → ℕ
first_of x out = position_or_len (λ other. pointwise nat_eq other x) out

pub fresh-there : (x : List ℕ) (out : List (List ℕ)) → is_some (place_in out x) ≡ false → Contains out x → ⊥
fresh-there x out e h =
    let n : ℕ = first_of x out in
    let past : nat_lt n (length out) ≡ false = sym (some-choice (nat_lt n (length out)) n) ∙ e in
    let later : length out ≤ n = elim (leb_tells (suc n) (length out)) [ inl k ↦ absurd (cc (past, k.0)) | inr k ↦ omega (arith, k.1) ] in
    let k : ℕ = h.0 in
    let inside : k < length out = h.1 in
    let before : k < n = omega arith in
    let fails : pointwise nat_eq (get_or out k x) x ≡ false = fails_before_first (λ other. pointwise nat_eq other x) out k x before in
    let passes : pointwise nat_eq (get_or out k x) x ≡ true = (bytes_decides (get_or out k x) x).1 h.2 in
    absurd (cc (fails, passes))

fresh-from : (x : List ℕ) (out : List (List ℕ)) → (Contains out x → ⊥) → is_some (place_in out x) ≡ false
fresh-from x out h =
    let n : ℕ = first_of x out in
    some-choice (nat_lt n (length out)) n ∙ not-true (nat_lt n (length out)) (λ t.
    let inside : n < length out = (Decides-ltb n (length out)).0 t in
    let passes : pointwise nat_eq (get_or out n x) x ≡ true = passes_at_first (λ other. pointwise nat_eq other x) out x inside in
    h (n, inside, (bytes_decides (get_or out n x) x).0 passes))

-- a name that is there already
pub not-new : (names out more : List (List ℕ)) (x : List ℕ) → names ≡ out ++ x ∷ more → is_some (place_in out x) ≡ true → AllDiffer names → ⊥
not-new names out more x e s d =
    let no : is_some (place_in out x) ≡ false = fresh-from x out (differ-fresh out x more (subst AllDiffer e d)) in absurd (cc (no, s))

-- the function that is all of a repository
pub main_whole : (r : Linked) (b : Body) (m : Main) → r.functions ≡ b ∷ [] → r.classes ≡ [] → Types r → IsMainIn b m → IsMainOf r m
main_whole r b m f k types h = record {
  is = (λ i. record { functions = f i; classes = k i }) ∙ (λ i. record { functions = h.is i ∷ []; classes = [] });
  form = record { body = b; functions = f; classes = k; second = h.second };
  types = types;
  words = h.words;
}

pub ok_whole : (r : Linked) (b : Body) (o : Result Main Unfit) → r.functions ≡ b ∷ [] → r.classes ≡ [] → Types r → IfOk o (λ m. IsMainIn b m) → IfOk o (λ m. IsMainOf r m)
ok_whole r b (Ok m) f k types h = main_whole r b m f k types h
ok_whole r b (Err u) f k types h = tt

pub single : (xs : List Body) (x : Body) → 1 ≤ length xs → length xs ≤ 1 → x ≡ get_or xs 0 x → xs ≡ x ∷ []
single [] x l m e = absurd (omega arith)
single (y ∷ []) x l m e = ap (λ (z : Body). z ∷ []) (sym e)
single (y ∷ z ∷ xs) x l m e = absurd (omega arith)
