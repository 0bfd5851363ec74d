-- The shapes of the positions of a body, as a table, and what their checks say.
use Rattle.std.proofs.Common.{◌≡◌, ◌⊎◌, inl, inr, ℕ, zero, suc, ◌<◌, refl, sym, ◌∙◌, ap, subst, Bool, true, false, nat_le, Option, Some, None, option_map, List, [], ◌∷◌, ◌++◌, map, flat_map, slice_get, length, cond, arith, ltb-true}
use Rattle.std.proofs.lemmas.Bool.{and_parts}
use Rattle.std.proofs.lemmas.Bool.Decides.{Decides-eqb}
use Rattle.std.proofs.lemmas.Option.{slice_get-map}
use Rattle.std.proofs.lemmas.List.{length-map, map-append}
use Rattle.hhbc_repo.specs.declared.code.Code.{Code}
use Rattle.hhbc_repo.specs.declared.body.Body.{Body}
use Rattle.hhbc_repo.specs.declared.body.Position.{Position}
use Rattle.hhbc_repo.specs.declared.repo.Class.{Class}
use Rattle.hhbc_repo.specs.Linked.{Linked}
use Rattle.hhbc_repo.specs.Bodies.{bodies, body_at, code_of, code_at, asserts_of, asserts_at}
use Rattle.hhbc_repo.specs.Bare.{bare, bare_body, bare_class, bare_position}
use Rattle.hhbc_ops.specs.declared.words.Flavour.{Flavour}
use Rattle.hhbc_ops.specs.declared.words.Flavour.TheVariants.{C, U}
use Rattle.hhbc_repo.specs.Edges.{Edge, target, edges, edges_of}
use Rattle.hhbc_repo.specs.Shapes.{Shape, Check, AllPass, given, given_after, given_by, handed, or_unled, shapes, edge_to, after, hands_on, agree, same_live, reaches, pops_of, slots_read_of, iter_use_of, all_within, all_cells, iter_checks, edge_checks, all_edge_checks, last_checks, checks, first_fault, fault_at}
use Rattle.hhbc_repo.proofs.Elements.{before_last, from_map, slice_last}
use Rattle.hhbc_semantics.proofs.Walking.{shapes_length}

-- an element of a list with one more behind it
last_or : {A : Type 0} (xs : List A) (x y : A) (n : ℕ) → slice_get (xs ++ x ∷ []) n ≡ Some y → (slice_get xs n ≡ Some y) ⊎ ((n ≡ length xs) × (x ≡ y))
last_or [] x y zero e = inr (refl, cc)
last_or [] x y (suc n) e = absurd (cc)
last_or (z ∷ xs) x y zero e = inl e
last_or (z ∷ xs) x y (suc n) e = by_case (last_or xs x y n e)
  where
    by_case : (slice_get xs n ≡ Some y) ⊎ ((n ≡ length xs) × (x ≡ y)) → (slice_get xs n ≡ Some y) ⊎ ((suc n ≡ suc (length xs)) × (x ≡ y))
    by_case (inl e) = inl e
    by_case (inr e) = inr (ap suc e.0, e.1)

-- the shapes of the first positions are those that are given
pub shape_at : (b : Body) (n p : ℕ) (s : Shape) → slice_get (shapes b n) p ≡ Some s → (p < n) × (s ≡ given b p)
shape_at b zero p s e = absurd (cc)
shape_at b (suc n) p s e = by_case (last_or (shapes b n) (given b n) s p e) (λ e. shape_at b n p s e)
  where
    by_case : (slice_get (shapes b n) p ≡ Some s) ⊎ ((p ≡ length (shapes b n)) × (given b n ≡ s))
        → (slice_get (shapes b n) p ≡ Some s → (p < n) × (s ≡ given b p)) → (p < suc n) × (s ≡ given b p)
    by_case (inl e) ih = let w = ih e in (omega (arith, w.0), w.1)
    by_case (inr e) ih =
        let same : p ≡ n = e.0 ∙ shapes_length b n in
        (omega (arith, same), sym e.1 ∙ ap (given b) (sym same))

pub shape_there : (b : Body) (n p : ℕ) → p < n → slice_get (shapes b n) p ≡ Some (given b p)
shape_there b zero p l = absurd (omega arith)
shape_there b (suc n) p l = by_case (within p n l) (λ l. shape_there b n p l)
  where
    within : (p n : ℕ) → p < suc n → (p < n) ⊎ (p ≡ n)
    within p n l = grind arith

    by_case : (p < n) ⊎ (p ≡ n) → (p < n → slice_get (shapes b n) p ≡ Some (given b p)) → slice_get (shapes b n ++ given b n ∷ []) p ≡ Some (given b p)
    by_case (inl l) ih = before_last (shapes b n) (given b n ∷ []) p (given b p) (ih l)
    by_case (inr e) ih =
        subst (λ p. slice_get (shapes b n ++ given b n ∷ []) p ≡ Some (given b p)) (sym e)
        (subst (λ m. slice_get (shapes b n ++ given b n ∷ []) m ≡ Some (given b n)) (shapes_length b n) (slice_last (shapes b n) (given b n)))

-- what the checks of a position say
no_fault_passes : (cs : List Check) → first_fault cs ≡ None → AllPass cs
no_fault_passes [] e = tt
no_fault_passes (c ∷ cs) e = by_case c.1 refl e (λ e. no_fault_passes cs e)
  where
    by_case : (t : Bool) → c.1 ≡ t → cond t (first_fault cs) (Some c.0) ≡ None → (first_fault cs ≡ None → AllPass cs) → AllPass (c ∷ cs)
    by_case true i e ih = (i, ih e)
    by_case false i e ih = absurd (cc)

pass_front : (xs ys : List Check) → AllPass (xs ++ ys) → AllPass xs
pass_front [] ys h = tt
pass_front (x ∷ xs) ys h = (h.0, pass_front xs ys h.1)

pass_back : (xs ys : List Check) → AllPass (xs ++ ys) → AllPass ys
pass_back [] ys h = h
pass_back (x ∷ xs) ys h = pass_back xs ys h.1

same_flavours : (xs ys : List Flavour) → length xs ≡ length ys → agree xs ys ≡ true → xs ≡ ys
same_flavours [] [] e h = refl
same_flavours [] (y ∷ ys) e h = absurd (omega arith)
same_flavours (x ∷ xs) [] e h = absurd (omega arith)
same_flavours (C ∷ xs) (C ∷ ys) e h = ap (λ zs. C ∷ zs) (same_flavours xs ys (omega arith) h)
same_flavours (C ∷ xs) (U ∷ ys) e h = absurd (cc)
same_flavours (U ∷ xs) (C ∷ ys) e h = absurd (cc)
same_flavours (U ∷ xs) (U ∷ ys) e h = ap (λ zs. U ∷ zs) (same_flavours xs ys (omega arith) h)

same_flags : (xs ys : List Bool) → same_live xs ys ≡ true → xs ≡ ys
same_flags [] [] h = refl
same_flags [] (y ∷ ys) h = absurd (cc)
same_flags (x ∷ xs) [] h = absurd (cc)
same_flags (true ∷ xs) (true ∷ ys) h = ap (λ zs. true ∷ zs) (same_flags xs ys h)
same_flags (true ∷ xs) (false ∷ ys) h = absurd (cc)
same_flags (false ∷ xs) (true ∷ ys) h = absurd (cc)
same_flags (false ∷ xs) (false ∷ ys) h = ap (λ zs. false ∷ zs) (same_flags xs ys h)

-- an edge leads to a position of the body, with the shape that it has
pub record EdgePasses (b : Body) (s : Shape) (q : ℕ) : Type 0 where
  pub inside : q < length b.positions
  pub same : s ≡ given b q

edge_passes : (b : Body) (s : Shape) (q : ℕ) → AllPass (edge_checks b s q) → EdgePasses b s q
edge_passes b s q h = record {
  inside = ltb-true _ _ h.0;
  same =
      let stacks = same_flavours s.stack (given b q).stack ((Decides-eqb (length s.stack) (length (given b q).stack)).0 h.1.1.0) h.1.1.1.0 in
      let lives = same_flags s.live (given b q).live h.1.1.1.1.0 in
      λ i. record { stack = stacks i; live = lives i };
}

edges_pass : (b : Body) (p : ℕ) (s : Shape) (es : List Edge) → AllPass (all_edge_checks b p s es) → (i : ℕ) (e : Edge) → slice_get es i ≡ Some e
    → EdgePasses b (after b p s e) (target e)
edges_pass b p s [] h i e is = absurd (cc)
edges_pass b p s (x ∷ es) h zero e is =
    let f : x ≡ e = cc in
    subst (λ e. EdgePasses b (after b p s e) (target e)) f
    (edge_passes b (after b p s x) (target x) (pass_front (edge_checks b (after b p s x) (target x)) (all_edge_checks b p s es) h))
edges_pass b p s (x ∷ es) h (suc i) e is =
    edges_pass b p s es (pass_back (edge_checks b (after b p s x) (target x)) (all_edge_checks b p s es) h) i e is

-- a position with its assertions, its code and its edges
pub record Passes (b : Body) (p : ℕ) : Type 0 where
  pub reach : reaches (asserts_at b p) (length (given b p).stack) ≡ true
  pub enough : nat_le (length (pops_of (code_at b p))) (length (given b p).stack) ≡ true
  pub agrees : agree (pops_of (code_at b p)) (given b p).stack ≡ true
  pub places : all_within (slots_read_of (code_at b p)) (length (given b p).stack) ≡ true
  pub are_cells : all_cells (slots_read_of (code_at b p)) (given b p).stack ≡ true
  pub iters : AllPass (iter_checks (iter_use_of (code_at b p)) (given b p).live)
  pub edge : (i : ℕ) (e : Edge) → slice_get (edges b p) i ≡ Some e → EdgePasses b (after b p (given b p) e) (target e)

pub passes : (b : Body) (p : ℕ) → fault_at b p ≡ None → Passes b p
passes b p e =
    let all = no_fault_passes (checks b p) e in
    let iters = iter_checks (iter_use_of (code_at b p)) (given b p).live in
    let on_edges = all_edge_checks b p (given b p) (edges b p) in
    let slots = and_parts (reaches (asserts_at b p) (length (given b p).stack)) _ all.0 in
    let found = and_parts (nat_le (length (pops_of (code_at b p))) (length (given b p).stack)) _ slots.1 in
    let flavours = and_parts (agree (pops_of (code_at b p)) (given b p).stack) _ all.1.0 in
    record {
      reach = slots.0;
      enough = found.0;
      agrees = flavours.0;
      places = found.1;
      are_cells = flavours.1;
      iters = pass_front iters (on_edges ++ last_checks b p) all.1.1;
      edge = edges_pass b p (given b p) (edges b p) (pass_front on_edges (last_checks b p) (pass_back iters (on_edges ++ last_checks b p) all.1.1));
    }

-- a body has the same shapes without its assertions
same_code : (o : Option Position) → code_of (option_map bare_position o) ≡ code_of o
same_code None = refl
same_code (Some q) = refl

pub code_bare : (b : Body) (p : ℕ) → code_at (bare_body b) p ≡ code_at b p
code_bare b p = ap code_of (slice_get-map bare_position b.positions p) ∙ same_code (slice_get b.positions p)

edges_same : (b : Body) (p : ℕ) (o : Option Code) → edges_of o (bare_body b) p ≡ edges_of o b p
edges_same b p None = refl
edges_same b p (Some c) = refl

pub edges_bare : (b : Body) (p : ℕ) → edges (bare_body b) p ≡ edges b p
edges_bare b p = edges_same b p (code_at (bare_body b) p) ∙ ap (λ o. edges_of o b p) (code_bare b p)

pub after_bare : (b : Body) (p : ℕ) (s : Shape) (e : Edge) → after (bare_body b) p s e ≡ after b p s e
after_bare b p s e = ap (λ o. hands_on o s e) (code_bare b p)

handed_bare : (b : Body) (p : ℕ) (s : Shape) (e : Option Edge) (o : Option Shape) → handed (bare_body b) p s e o ≡ handed b p s e o
handed_bare b p s None o = refl
handed_bare b p s (Some e) o = ap (λ s. Some s) (after_bare b p s e)

given_by_bare : (b : Body) (p : ℕ) (ss : List Shape) (q : ℕ) → given_by (bare_body b) p ss q ≡ given_by b p ss q
given_by_bare b p [] q = refl
given_by_bare b p (s ∷ ss) q =
    handed_bare b p s (edge_to q (edges (bare_body b) p)) (given_by (bare_body b) (suc p) ss q)
    ∙ ap (λ es. handed b p s (edge_to q es) (given_by (bare_body b) (suc p) ss q)) (edges_bare b p)
    ∙ ap (λ o. handed b p s (edge_to q (edges b p)) o) (given_by_bare b (suc p) ss q)

given_after_bare : (b : Body) (q : ℕ) (earlier : List Shape) → given_after (bare_body b) q earlier ≡ given_after b q earlier
given_after_bare b zero earlier = refl
given_after_bare b (suc q) earlier = ap (λ o. or_unled b (suc q) o) (given_by_bare b 0 earlier (suc q))

pub shapes_bare : (b : Body) (n : ℕ) → shapes (bare_body b) n ≡ shapes b n
shapes_bare b zero = refl
shapes_bare b (suc n) =
    ap (λ x. shapes (bare_body b) n ++ x ∷ []) (given_after_bare b n (shapes (bare_body b) n))
    ∙ ap (λ xs. xs ++ given_after b n xs ∷ []) (shapes_bare b n)

pub given_bare : (b : Body) (q : ℕ) → given (bare_body b) q ≡ given b q
given_bare b q = given_after_bare b q (shapes (bare_body b) q) ∙ ap (λ xs. given_after b q xs) (shapes_bare b q)

pub asserts_bare : (b : Body) (p : ℕ) → reaches (asserts_at (bare_body b) p) (length (given (bare_body b) p).stack) ≡ true
asserts_bare b p = ap (λ o. reaches (asserts_of o) (length (given (bare_body b) p).stack)) (slice_get-map bare_position b.positions p) ∙ none (slice_get b.positions p)
  where
    none : (o : Option Position) → reaches (asserts_of (option_map bare_position o)) (length (given (bare_body b) p).stack) ≡ true
    none None = refl
    none (Some q) = refl

pub passes_bare : (b : Body) (p : ℕ) → Passes b p → Passes (bare_body b) p
passes_bare b p h = record {
  reach = asserts_bare b p;
  enough =
      ap (λ o. nat_le (length (pops_of o)) (length (given (bare_body b) p).stack)) (code_bare b p)
      ∙ ap (λ (s : Shape). nat_le (length (pops_of (code_at b p))) (length s.stack)) (given_bare b p) ∙ h.enough;
  agrees =
      ap (λ o. agree (pops_of o) (given (bare_body b) p).stack) (code_bare b p)
      ∙ ap (λ (s : Shape). agree (pops_of (code_at b p)) s.stack) (given_bare b p) ∙ h.agrees;
  places =
      ap (λ o. all_within (slots_read_of o) (length (given (bare_body b) p).stack)) (code_bare b p)
      ∙ ap (λ (s : Shape). all_within (slots_read_of (code_at b p)) (length s.stack)) (given_bare b p) ∙ h.places;
  are_cells =
      ap (λ o. all_cells (slots_read_of o) (given (bare_body b) p).stack) (code_bare b p)
      ∙ ap (λ (s : Shape). all_cells (slots_read_of (code_at b p)) s.stack) (given_bare b p) ∙ h.are_cells;
  iters =
      subst (λ o. AllPass (iter_checks (iter_use_of o) (given (bare_body b) p).live)) (sym (code_bare b p))
      (subst (λ (s : Shape). AllPass (iter_checks (iter_use_of (code_at b p)) s.live)) (sym (given_bare b p)) h.iters);
  edge = λ i e is.
      let x = h.edge i e (subst (λ es. slice_get es i ≡ Some e) (edges_bare b p) is) in
      record {
        inside = subst (λ n. target e < n) (sym (length-map b.positions bare_position)) x.inside;
        same = after_bare b p (given (bare_body b) p) e ∙ ap (λ s. after b p s e) (given_bare b p) ∙ x.same ∙ sym (given_bare b (target e));
      };
}

-- the bodies without assertions, in the same order
methods_bare : (cs : List Class) → flat_map (λ (c : Class). c.methods) (map bare_class cs) ≡ map bare_body (flat_map (λ (c : Class). c.methods) cs)
methods_bare [] = refl
methods_bare (c ∷ cs) = ap (λ bs. map bare_body c.methods ++ bs) (methods_bare cs) ∙ sym (map-append bare_body c.methods (flat_map (λ (c : Class). c.methods) cs))

bodies_bare : (r : Linked) → bodies (bare r) ≡ map bare_body (bodies r)
bodies_bare r =
    ap (λ bs. map bare_body r.functions ++ bs) (methods_bare r.classes)
    ∙ sym (map-append bare_body r.functions (flat_map (λ (c : Class). c.methods) r.classes))

pub body_bare : (r : Linked) (n : ℕ) (b : Body) → body_at (bare r) n ≡ Some b → (x : Body) × (body_at r n ≡ Some x) × (bare_body x ≡ b)
body_bare r n b e = from_map bare_body (bodies r) n b (subst (λ bs. slice_get bs n ≡ Some b) (bodies_bare r) e)

pub code_of_bare : (b : Body) (p : ℕ) (c : Code) → code_at (bare_body b) p ≡ Some c → code_at b p ≡ Some c
code_of_bare b p c e = sym (code_bare b p) ∙ e
