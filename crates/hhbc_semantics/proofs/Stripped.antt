-- A repository without its assertions and stated types.
use Rattle.std.proofs.Common.{◌≡◌, ◌≤◌, ℕ, zero, suc, ◌+◌, ◌-◌, refl, sym, ◌∙◌, ap, subst, Bool, true, false, ◌&&◌, nat_le, nat_eq, Option, Some, None, List, [], ◌∷◌, map, length, cond}
use Rattle.std.specs.Cmp.Lexicographic.{pointwise}
use Rattle.std.proofs.lemmas.List.{length-map}
use Rattle.hack_values.specs.declared.cell.Cell.{Cell}
use Rattle.hhbc_repo.specs.declared.body.Body.{Body}
use Rattle.hhbc_repo.specs.declared.body.Position.{Position}
use Rattle.hhbc_repo.specs.declared.repo.Class.{Class}
use Rattle.hhbc_repo.specs.Linked.{Linked}
use Rattle.hhbc_repo.specs.Bare.{bare, bare_position, bare_body, bare_property, bare_class}
use Rattle.hhbc_repo.specs.Codes.{pops, pushes}
use Rattle.hhbc_semantics.specs.Setting.{Setting, bare_setting}
use Rattle.hhbc_semantics.specs.Form.{FitsPosition, FitPositions, FitsClaimed, FitClaimed, IsFirstBody, IsFirstForm, IsSecondBody, IsSecondForm}
use Rattle.hhbc_semantics.specs.Run.{start, start_in, function_from, advance, after, result_of}
use Rattle.hhbc_repo.specs.Shapes.{reaches}
use Rattle.hhbc_semantics.specs.Steps.{Config, Running, Ended, next}
use Rattle.hhbc_semantics.specs.Truth.{RunsAsBare, BareIsFirstForm}
use Rattle.hhbc_semantics.specs.Walks.{walks, walks_asserted}
use Rattle.hhbc_semantics.proofs.Walking.{types_where_it_walks, types_where_asserted_walks}

-- what is without claims stays as it is
bare_all : {A : Type 0} (f : A → A) (xs : List A) → ((x : A) → f (f x) ≡ f x) → map f (map f xs) ≡ map f xs
bare_all f [] h = refl
bare_all f (x ∷ xs) h = λ i. h x i ∷ bare_all f xs h i

bare_body_again : (b : Body) → bare_body (bare_body b) ≡ bare_body b
bare_body_again b = ap (λ (ps : List Position). record b { stated = None; positions = ps }) (bare_all bare_position b.positions (λ p. refl))

bare_class_again : (c : Class) → bare_class (bare_class c) ≡ bare_class c
bare_class_again c = λ i. record c { props = bare_all bare_property c.props (λ p. refl) i; methods = bare_all bare_body c.methods bare_body_again i }

pub bare_again : (r : Linked) → bare (bare r) ≡ bare r
bare_again r = λ i. record { functions = bare_all bare_body r.functions bare_body_again i; classes = bare_all bare_class r.classes bare_class_again i }

-- a run begins at the same place
begins : (o : Bool) (n : ℕ) (b : Body) (p q : Option (ℕ × Body)) (args : List Cell) → start_in p args ≡ start_in q args
    → start_in (cond o (Some (n, b)) p) args ≡ start_in (cond o (Some (n, bare_body b)) q) args
begins true n b p q args e = refl
begins false n b p q args e = e

start_from : (n : ℕ) (bs : List Body) (entry : List ℕ) (args : List Cell)
    → start_in (function_from n bs entry) args ≡ start_in (function_from n (map bare_body bs) entry) args
start_from n [] entry args = refl
start_from n (b ∷ bs) entry args =
    begins (pointwise nat_eq b.name entry) n b (function_from (suc n) bs entry) (function_from (suc n) (map bare_body bs) entry) args (start_from (suc n) bs entry args)

pub bare_setting_again : (S : Setting) → bare_setting (bare_setting S) ≡ bare_setting S
bare_setting_again S = ap (λ r. record S { repo = r }) (bare_again S.repo)

pub same_start : (S : Setting) (entry : List ℕ) (args : List Cell) → start S entry args ≡ start (bare_setting S) entry args
same_start S entry args = start_from 0 S.repo.functions entry args

same_turn : (S : Setting) (c : Config) → advance S false c ≡ advance (bare_setting S) false c
same_turn S (Running f fs w) = ap (λ (x : Setting). next x (Running f fs w)) (sym (bare_setting_again S))
same_turn S (Ended o w) = refl

same_turns : (S : Setting) (c d : Config) → c ≡ d → (n : ℕ) → after S false c n ≡ after (bare_setting S) false d n
same_turns S c d e zero = e
same_turns S c d e (suc n) = ap (λ (x : Config). advance S false x) (same_turns S c d e n) ∙ same_turn S (after (bare_setting S) false d n)

pub runs_as_bare : RunsAsBare
runs_as_bare S entry args n =
    ap (λ (c : Config). result_of c) (same_turns S (start S entry args) (start (bare_setting S) entry args) (same_start S entry args) n)

-- the form of what is left
bare_one : (count : ℕ) (p : Position) → FitsClaimed count p → FitsPosition count (bare_position p)
bare_one count p h = record { bare = refl; fits = h.fits }

bare_fit : (count : ℕ) (ps : List Position) → FitClaimed count ps → FitPositions count (map bare_position ps)
bare_fit count [] h = absurd h
bare_fit count (p ∷ []) h = (bare_one count p h.0, h.1)
bare_fit count (p ∷ q ∷ ps) h = (bare_one count p h.0, h.1, bare_fit count (q ∷ ps) h.2)

first_from : (b : Body) → IsSecondBody b → IsFirstBody (bare_body b)
first_from b h =
    let l = length-map b.positions bare_position in
    record {
      name = h.name;
      params = h.params;
      iters = h.iters;
      stated = refl;
      regions = h.regions;
      differ = h.differ;
      locals = h.locals;
      few = subst (λ (n : ℕ). n ≤ 200) (sym l) h.few;
      positions = bare_fit (length b.locals) b.positions h.positions;
    }

pub bare_form : (r : Linked) → IsSecondForm r → IsFirstForm (bare r)
bare_form r w = record {
  body = bare_body w.body;
  functions = ap (λ (bs : List Body). map bare_body bs) w.functions;
  classes = ap (λ (cs : List Class). map bare_class cs) w.classes;
  first = first_from w.body w.second;
}

-- where assertions find their slots too, codes do
right : (a b c : Bool) → ((a && b) && c) ≡ true → (b && c) ≡ true
right true b c h = h
right false b c h = absurd (cc)

tail : (a c d : Bool) → (c ≡ true → d ≡ true) → (a && c) ≡ true → (a && d) ≡ true
tail true c d k h = k h
tail false c d k h = absurd (cc)

bare_walks : (depth : ℕ) (ps : List Position) → walks_asserted depth ps ≡ true → walks depth (map bare_position ps) ≡ true
bare_walks depth [] h = refl
bare_walks depth (p ∷ ps) h =
    let now : Bool = nat_le (length (pops p.code)) depth in
    let next : ℕ = length (pushes p.code) + (depth - length (pops p.code)) in
    tail now (walks_asserted next ps) (walks next (map bare_position ps)) (bare_walks next ps) (right (reaches p.asserts depth) now (walks_asserted next ps) h)

pub bare_is_first_form : BareIsFirstForm
unfolding bare_form first_from
bare_is_first_form r form = (
  bare_form r form,
  λ types. (types_where_it_walks (bare r) (bare_form r form)).0 (bare_walks 0 form.body.positions ((types_where_asserted_walks r form).1 types)),
)
