-- The number of a method is that of a body of its name, in the class or above it.
use Rattle.std.proofs.Common.{IfSome, ◌≡◌, ◌+◌, ℕ, zero, suc, List, [], ◌∷◌, ◌++◌, Bool, true, false, ◌||◌, ◌==◌, Option, Some, None, refl, ap, sym, ◌∙◌, map, length, slice_get, get_or, arith, subst}
use Rattle.std.proofs.lemmas.Bool.{eq-eqb}
use Rattle.std.proofs.lemmas.List.{length-map}
use Rattle.std.proofs.lemmas.List.Quantifiers.{position-Some}
use Rattle.std.proofs.lemmas.Option.{slice_get-get_or}
use Rattle.type_lattice.specs.Classes.{chain, has}
use Rattle.hhbc_repo.specs.declared.body.Body.{Body}
use Rattle.hhbc_repo.specs.declared.repo.Class.{Class}
use Rattle.hhbc_repo.specs.Linked.{Linked}
use Rattle.hhbc_repo.specs.LinkFaults.{Name, is_name, place_in, first_class}
use Rattle.hhbc_repo.specs.Bodies.{bodies, numbers, tree_of}
use Rattle.hhbc_repo.specs.LookUps.{IsMethodOf, all_methods, first_some, function_names, method_names, method_of, methods_in, no_names, number_at, or_else, own_number, owners, owners_from}
use Rattle.hhbc_repo.proofs.Numbered.{numbers-get}
use Rattle.hhbc_repo.proofs.NumbersPut.{place_inside}
use Rattle.hhbc_repo.proofs.NumbersPut.{same_name}
use Rattle.hhbc_repo.proofs.Elements.{before_last, from_map, to_map}

behind_first : {A : Type 0} (xs ys : List A) (n : ℕ) → slice_get (xs ++ ys) (length xs + n) ≡ slice_get ys n
behind_first [] ys n = ap (slice_get ys) (omega arith)
behind_first (x ∷ xs) ys n = let e : suc (length xs) + n ≡ suc (length xs + n) = omega arith in ap (slice_get (x ∷ (xs ++ ys))) e ∙ behind_first xs ys n

module _ (name : Name) where
  record Named (bs : List Body) (p : ℕ) : Type 0 where
    body : Body
    there : slice_get bs p ≡ Some body
    named : body.name ≡ name

  named_at : (bs : List Body) (p : ℕ) → place_in (function_names bs) name ≡ Some p → Named bs p
  named_at bs p h =
      let k = position-Some (is_name name) (function_names bs) p [] h in
      let m = from_map (λ (b : Body). b.name) bs p (get_or (function_names bs) p []) (slice_get-get_or (function_names bs) p [] k.0) in
      record { body = m.0; there = m.1; named = m.2 ∙ sym (same_name name (get_or (function_names bs) p []) k.1) }

  -- a method that a class declares itself, where bodies are numbered from a first number and classes from a base
  record Own (first base : ℕ) (cs : List Class) (d n : ℕ) : Type 0 where
    at : ℕ
    body : Body
    number : n ≡ first + at
    there : slice_get (methods_in cs) at ≡ Some body
    owned : slice_get (owners_from base cs) at ≡ Some (Some (base + d))
    named : body.name ≡ name

  here : (first base : ℕ) (c : Class) (cs : List Class) (n : ℕ) (o : Option ℕ) → place_in (function_names c.methods) name ≡ o → number_at (numbers first (length (function_names c.methods))) o ≡ Some n → Own first base (c ∷ cs) zero n
  here first base c cs n None e h = absurd (cc)
  here first base c cs n (Some p) e h =
      let m = named_at c.methods p e in
      let g = numbers-get first (length (function_names c.methods)) p (place_inside (function_names c.methods) name p e) in
      let i : Some (first + p) ≡ Some n = sym g ∙ h in
      record {
        at = p;
        body = m.body;
        number = cc;
        there = before_last c.methods (methods_in cs) p m.body m.there;
        owned = before_last _ (owners_from (suc base) cs) p _ (to_map (λ (b : Body). Some base) c.methods p m.body m.there) ∙ ap (λ k. Some (Some k)) (omega arith);
        named = m.named;
      }

  later : (first base : ℕ) (c : Class) (cs : List Class) (d n : ℕ) → Own (first + length (function_names c.methods)) (suc base) cs d n → Own first base (c ∷ cs) (suc d) n
  later first base c cs d n w = record {
    at = length c.methods + w.at;
    body = w.body;
    number = let l = length-map c.methods (λ (b : Body). b.name) in let k = w.number in omega (arith, l, k);
    there = behind_first c.methods (methods_in cs) w.at ∙ w.there;
    owned =
        ap (λ k. slice_get (owners_from base (c ∷ cs)) (k + w.at)) (sym (length-map c.methods (λ (b : Body). Some base)))
        ∙ behind_first (map (λ (b : Body). Some base) c.methods) (owners_from (suc base) cs) w.at
        ∙ w.owned
        ∙ ap (λ k. Some (Some k)) (omega arith);
    named = w.named;
  }

  own : (first base : ℕ) (cs : List Class) (d n : ℕ) → own_number first (method_names cs) name d ≡ Some n → Own first base cs d n
  own first base [] d n h = absurd (cc)
  own first base (c ∷ cs) zero n h = here first base c cs n (place_in (function_names c.methods) name) refl h
  own first base (c ∷ cs) (suc d) n h = later first base c cs d n (own (first + length (function_names c.methods)) (suc base) cs d n h)

  behind_built_in : (first : ℕ) (cs : List Class) (c n : ℕ) → own_number first (([] ∷ no_names) ++ method_names cs) name c ≡ Some n → (d : ℕ) × (c ≡ first_class + d) × (own_number first (method_names cs) name d ≡ Some n)
  behind_built_in first cs zero n h = absurd (cc)
  behind_built_in first cs (suc zero) n h = absurd (cc)
  behind_built_in first cs (suc (suc zero)) n h = absurd (cc)
  behind_built_in first cs (suc (suc (suc zero))) n h = absurd (cc)
  behind_built_in first cs (suc (suc (suc (suc zero)))) n h = absurd (cc)
  behind_built_in first cs (suc (suc (suc (suc (suc zero))))) n h = absurd (cc)
  behind_built_in first cs (suc (suc (suc (suc (suc (suc d)))))) n h =
      let e : first + 0 + 0 + 0 + 0 + 0 + 0 ≡ first = omega arith in
      (d, omega arith, subst (λ k. own_number k (method_names cs) name d ≡ Some n) e h)

  own_in : (r : Linked) (c n : ℕ) → own_number (length r.functions) (all_methods r) name c ≡ Some n → (owned : slice_get (owners r) n ≡ Some (Some c)) × (b : Body) × (slice_get (bodies r) n ≡ Some b) × (b.name ≡ name)
  own_in r c n h =
      let w = behind_built_in (length r.functions) r.classes c n h in
      let m = own (length r.functions) first_class r.classes w.0 n w.2 in (
        ap (slice_get (owners r)) (m.number ∙ ap (λ k. k + m.at) (sym (length-map r.functions (λ (b : Body). None))))
            ∙ behind_first (map (λ (b : Body). None) r.functions) (owners_from first_class r.classes) m.at
            ∙ m.owned
            ∙ ap (λ k. Some (Some k)) (sym w.1),
        m.body,
        ap (slice_get (bodies r)) m.number ∙ behind_first r.functions (methods_in r.classes) m.at ∙ m.there,
        m.named,
      )

-- what some class of a list gives first
pub given : (f : ℕ → Option ℕ) (cs : List ℕ) (n : ℕ) → first_some f cs ≡ Some n → (d : ℕ) × (has d cs ≡ true) × (f d ≡ Some n)
given f [] n h = absurd (cc)
given f (c ∷ cs) n h = go (f c) refl h (given f cs n)
  where
    go : (o : Option ℕ) → f c ≡ o → or_else o (first_some f cs) ≡ Some n → (first_some f cs ≡ Some n → (d : ℕ) × (has d cs ≡ true) × (f d ≡ Some n)) → (d : ℕ) × (has d (c ∷ cs) ≡ true) × (f d ≡ Some n)
    go (Some m) e k more = let t : (c == c) ≡ true = eq-eqb c c refl in (c, rw t refl, e ∙ k)
    go None e k more = let w = more k in (w.0, above w.0 (w.0 == c) w.1, w.2)
      where
        above : (d : ℕ) (t : Bool) → has d cs ≡ true → t || has d cs ≡ true
        above d true i = refl
        above d false i = i

pub method_found : (r : Linked) (c n : ℕ) (name : Name) → method_of r c name ≡ Some n → IsMethodOf r c name n
method_found r c n name h =
    let w = given (own_number (length r.functions) (all_methods r) name) (chain (tree_of r) c) n h in
    let m = own_in name r w.0 n w.2 in
    record { owner = w.0; body = m.1; above = w.1; owned = m.0; there = m.2; named = m.3 }

pub method_means : (r : Linked) (c : ℕ) (name : Name) (o : Option ℕ) → o ≡ method_of r c name → IfSome o (λ n. IsMethodOf r c name n)
method_means r c name None e = tt
method_means r c name (Some n) e = method_found r c n name (sym e)
