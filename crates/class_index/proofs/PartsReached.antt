-- What some class of a part gives, told from the class that declares it.
use Rattle.std.proofs.Common.{◌≡◌, ◌<◌, ◌≤◌, ◌+◌, ◌⊎◌, inl, inr, ℕ, zero, suc, refl, sym, subst, ◌∙◌, cond, Bool, true, false, ◌||◌, ◌==◌, Some, List, [], ◌∷◌, filter, length, arith}
use Rattle.std.specs.List.{list_any}
use Rattle.std.proofs.lemmas.Bool.{eqb-true, eq-eqb}
use Rattle.type_lattice.specs.declared.types.ObjPart.{ObjPart}
use Rattle.type_lattice.specs.declared.types.ObjPart.TheVariants as objs
use Rattle.type_lattice.specs.Classes.{Tree, Forest, has, below}
use Rattle.type_lattice.specs.Member.{obj_in}
use Rattle.type_lattice.proofs.Chains.{below_linear, below_here}
use Rattle.hhbc_repo.specs.Bodies.{numbers}
use Rattle.class_index.specs.Reached.{reaches}

pub both_ways : (a b : Bool) → (a ≡ true → b ≡ true) → (b ≡ true → a ≡ true) → a ≡ b
both_ways true true f g = refl
both_ways true false f g = sym (f refl)
both_ways false true f g = g refl
both_ways false false f g = refl

pub either : (a b : Bool) → (a || b) ≡ true → (a ≡ true) ⊎ (b ≡ true)
either true b h = inl refl
either false b h = inr h

pub or_left : (a b : Bool) → a ≡ true → (a || b) ≡ true
or_left true b h = refl
or_left false b h = absurd (cc)

pub or_right : (a b : Bool) → b ≡ true → (a || b) ≡ true
or_right true b h = refl
or_right false b h = h

pub has_numbers : (first n c : ℕ) → first ≤ c → c < first + n → has c (numbers first n) ≡ true
has_numbers first zero c h k = absurd (omega (arith, h, k))
has_numbers first (suc n) c h k = go (c == first) refl (λ l. has_numbers (suc first) n c l (omega (arith, k)))
  where
    go : (b : Bool) → (c == first) ≡ b → (suc first ≤ c → has c (numbers (suc first) n) ≡ true) → (b || has c (numbers (suc first) n)) ≡ true
    go true e more = refl
    go false e more =
        let other : c ≡ first → ⊥ = λ m. let x : true ≡ false = sym (eq-eqb c first m) ∙ e in absurd (cc) in
        more (grind (arith, h, other))

module _ (give test : ℕ → Bool) where
  pub any_there : (cs : List ℕ) (x : ℕ) → has x cs ≡ true → test x ≡ true → give x ≡ true → list_any give (filter test cs) ≡ true
  any_there [] x h t g = absurd (cc)
  any_there (c ∷ cs) x h t g = go (test c) refl (either (x == c) (has x cs) h) (λ k. any_there cs x k t g)
    where
      go : (b : Bool) → test c ≡ b → ((x == c) ≡ true) ⊎ (has x cs ≡ true) → (has x cs ≡ true → list_any give (filter test cs) ≡ true) → list_any give (cond b (c ∷ filter test cs) (filter test cs)) ≡ true
      go true e (inl k) more = or_left (give c) (list_any give (filter test cs)) (subst (λ (y : ℕ). give y ≡ true) (eqb-true x c k) g)
      go true e (inr k) more = or_right (give c) (list_any give (filter test cs)) (more k)
      go false e (inl k) more = let m : test c ≡ true = subst (λ (y : ℕ). test y ≡ true) (eqb-true x c k) t in let n : true ≡ false = sym m ∙ e in absurd (cc)
      go false e (inr k) more = more k

  pub any_from : (cs : List ℕ) → list_any give (filter test cs) ≡ true → (x : ℕ) × (test x ≡ true) × (give x ≡ true)
  any_from [] h = absurd (cc)
  any_from (c ∷ cs) h = go (test c) refl h (λ k. any_from cs k)
    where
      first : test c ≡ true → (give c ≡ true) ⊎ (list_any give (filter test cs) ≡ true) → (list_any give (filter test cs) ≡ true → (x : ℕ) × (test x ≡ true) × (give x ≡ true)) → (x : ℕ) × (test x ≡ true) × (give x ≡ true)
      first e (inl k) more = (c, e, k)
      first e (inr k) more = more k

      go : (b : Bool) → test c ≡ b → list_any give (cond b (c ∷ filter test cs) (filter test cs)) ≡ true → (list_any give (filter test cs) ≡ true → (x : ℕ) × (test x ≡ true) × (give x ≡ true)) → (x : ℕ) × (test x ≡ true) × (give x ≡ true)
      go true e k more = first e (either (give c) (list_any give (filter test cs)) k) more
      go false e k more = more k

-- what one class declares is had by objects of some of those below it; between two that have it, all have it
pub record IsHad (tree : Tree) (give : ℕ → Bool) (d : ℕ) : Type 0 where
  pub inside : d < length tree
  pub here : give d ≡ true
  pub above : (c : ℕ) → give c ≡ true → below tree c d ≡ true
  pub known : (c : ℕ) → give c ≡ true → c < length tree
  pub between : (b c : ℕ) → give b ≡ true → below tree b c ≡ true → below tree c d ≡ true → give c ≡ true

module _ (tree : Tree) (forest : Forest tree) (give : ℕ → Bool) (d : ℕ) (had : IsHad tree give d) where
  abbrev some_class : ObjPart → Bool
  some_class part = list_any give (filter (λ c. obj_in tree (Some c) part) (numbers 0 (length tree)))

  there : (part : ObjPart) (c : ℕ) → c < length tree → obj_in tree (Some c) part ≡ true → give c ≡ true → some_class part ≡ true
  there part c h k g = any_there give (λ c. obj_in tree (Some c) part) (numbers 0 (length tree)) c (has_numbers 0 (length tree) c (omega arith) (omega (arith, h))) k g

  under : (c x : ℕ) → below tree x c ≡ true → give x ≡ true → (below tree c d ≡ true) ⊎ (below tree d c ≡ true) → (below tree d c || give c) ≡ true
  under c x h g (inl k) = or_right (below tree d c) (give c) (had.between x c g h k)
  under c x h g (inr k) = or_left (below tree d c) (give c) k

  onto : (part : ObjPart) → some_class part ≡ true → reaches tree part give d ≡ true
  onto objs.No h = let w = any_from give (λ c. obj_in tree (Some c) objs.No) (numbers 0 (length tree)) h in let k = w.1 in absurd (cc)
  onto (objs.Exact c) h =
      let w = any_from give (λ x. obj_in tree (Some x) (objs.Exact c)) (numbers 0 (length tree)) h in
      subst (λ (y : ℕ). give y ≡ true) (eqb-true w.0 c w.1) w.2
  onto (objs.Sub c) h =
      let w = any_from give (λ x. obj_in tree (Some x) (objs.Sub c)) (numbers 0 (length tree)) h in
      under c w.0 w.1 w.2 (below_linear tree forest w.0 c d w.1 (had.above w.0 w.2))
  onto objs.Any h = refl

  back : (part : ObjPart) → reaches tree part give d ≡ true → some_class part ≡ true
  back objs.No h = absurd (cc)
  back (objs.Exact c) h = there (objs.Exact c) c (had.known c h) (eq-eqb c c refl) h
  back (objs.Sub c) h = go (either (below tree d c) (give c) h)
    where
      go : (below tree d c ≡ true) ⊎ (give c ≡ true) → some_class (objs.Sub c) ≡ true
      go (inl k) = there (objs.Sub c) d had.inside k had.here
      go (inr k) = there (objs.Sub c) c (had.known c k) (below_here tree forest c c refl) k
  back objs.Any h = there objs.Any d had.inside refl had.here

  pub reached : (part : ObjPart) → some_class part ≡ reaches tree part give d
  reached part = both_ways (some_class part) (reaches tree part give d) (onto part) (back part)
