-- What a body that passes the checks of linking links to passes a test: then all bodies of a repository do.
use Rattle.std.proofs.Common.{◌≡◌, true, Bool, List, [], ◌∷◌, ◌++◌, map, flat_map, codes, refl, sym, ap, ◌∙◌, append_assoc}
use Rattle.std.specs.List.{list_all}
use Rattle.std.proofs.lemmas.Bool.{and_from, and_parts}
use Rattle.std.proofs.lemmas.List.Folds.{list_all-append}
use Rattle.hhbc_repo.specs.declared.body.Body.{Body}
use Rattle.hhbc_repo.specs.declared.parts.BodyParts.{BodyParts}
use Rattle.hhbc_repo.specs.declared.parts.ClassParts.{ClassParts}
use Rattle.hhbc_repo.specs.Bodies.{bodies}
use Rattle.hhbc_repo.specs.LinkFaults.{Name, Place, Whole, body_faults, function_places, method_places, places}
use Rattle.hhbc_repo.specs.LookUps.{methods_in}
use Rattle.hhbc_repo.specs.Resolved.{resolved, resolved_body, resolved_class}
use Rattle.hhbc_repo.proofs.NoFaults.{empty_left, empty_right}

faults_append : (ps qs : List Place) → flat_map body_faults (ps ++ qs) ≡ flat_map body_faults ps ++ flat_map body_faults qs
faults_append [] qs = refl
faults_append (p ∷ ps) qs = ap (λ l. body_faults p ++ l) (faults_append ps qs) ∙ sym (append_assoc (body_faults p) (flat_map body_faults ps) (flat_map body_faults qs))

module _ (w : Whole) (fits : BodyParts → Bool) (test : Body → Bool)
    (each : (b : BodyParts) (owner : Name) → fits b ≡ true → body_faults (record { whole = w; body = b; owner = owner }) ≡ [] → test (resolved_body w b) ≡ true) where
  bodies_pass : (owner : BodyParts → Name) (bs : List BodyParts) → list_all fits bs ≡ true
      → flat_map body_faults (map (λ (b : BodyParts). record { whole = w; body = b; owner = owner b }) bs) ≡ [] → list_all test (map (resolved_body w) bs) ≡ true
  bodies_pass owner [] f h = refl
  bodies_pass owner (b ∷ bs) f h =
      let p = and_parts (fits b) (list_all fits bs) f in
      let here : Place = record { whole = w; body = b; owner = owner b } in
      let more = flat_map body_faults (map (λ (b : BodyParts). record { whole = w; body = b; owner = owner b }) bs) in
      and_from (test (resolved_body w b)) (list_all test (map (resolved_body w) bs))
      (each b (owner b) p.0 (empty_left (body_faults here) more h)) (bodies_pass owner bs p.1 (empty_right (body_faults here) more h))

  methods_pass : (cs : List ClassParts) → list_all (λ (c : ClassParts). list_all fits c.methods) cs ≡ true → flat_map body_faults (flat_map (method_places w) cs) ≡ [] → list_all test (methods_in (map (resolved_class w) cs)) ≡ true
  methods_pass [] f h = refl
  methods_pass (c ∷ cs) f h =
      let p = and_parts (list_all fits c.methods) (list_all (λ (c : ClassParts). list_all fits c.methods) cs) f in
      let more = flat_map (method_places w) cs in
      let k = sym (faults_append (method_places w c) more) ∙ h in
      list_all-append test (map (resolved_body w) c.methods) (methods_in (map (resolved_class w) cs))
      ∙ and_from (list_all test (map (resolved_body w) c.methods)) (list_all test (methods_in (map (resolved_class w) cs)))
      (bodies_pass (λ b. c.name ++ (codes "::" ++ b.name)) c.methods p.0 (empty_left (flat_map body_faults (method_places w c)) (flat_map body_faults more) k))
      (methods_pass cs p.1 (empty_right (flat_map body_faults (method_places w c)) (flat_map body_faults more) k))

  pub all_pass : list_all fits w.functions ≡ true → list_all (λ (c : ClassParts). list_all fits c.methods) w.classes ≡ true → flat_map body_faults (places w) ≡ [] → list_all test (bodies (resolved w)) ≡ true
  all_pass f g h =
      let more = flat_map (method_places w) w.classes in
      let k = sym (faults_append (function_places w) more) ∙ h in
      list_all-append test (map (resolved_body w) w.functions) (methods_in (map (resolved_class w) w.classes))
      ∙ and_from (list_all test (map (resolved_body w) w.functions)) (list_all test (methods_in (map (resolved_class w) w.classes)))
      (bodies_pass (λ b. b.name) w.functions f (empty_left (flat_map body_faults (function_places w)) (flat_map body_faults more) k))
      (methods_pass w.classes g (empty_right (flat_map body_faults (function_places w)) (flat_map body_faults more) k))

-- any body passes
pub any_body : (bs : List BodyParts) → list_all (λ (b : BodyParts). true) bs ≡ true
any_body [] = refl
any_body (b ∷ bs) = any_body bs

pub any_method : (cs : List ClassParts) → list_all (λ (c : ClassParts). list_all (λ (b : BodyParts). true) c.methods) cs ≡ true
any_method [] = refl
any_method (c ∷ cs) = and_from (list_all (λ (b : BodyParts). true) c.methods) (list_all (λ (c : ClassParts). list_all (λ (b : BodyParts). true) c.methods) cs) (any_body c.methods) (any_method cs)
