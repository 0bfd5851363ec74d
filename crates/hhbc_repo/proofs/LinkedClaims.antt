-- What a repository with a spelling claims keeps to its ranges.
use Rattle.std.proofs.Common.{◌≡◌, ℕ, suc, Bool, true, ◌&&◌, List, [], ◌∷◌, ◌++◌, map, length, refl, sym, ap, ◌∙◌, subst, not}
use Rattle.std.specs.List.{list_all}
use Rattle.std.proofs.lemmas.Bool.{and_from, and_parts}
use Rattle.std.proofs.lemmas.List.Folds.{list_all-append}
use Rattle.hhas_lex.specs.Spelling.{is_word}
use Rattle.type_lattice.specs.InRange.{where_there, is_proper}
use Rattle.hhbc_repo.specs.declared.body.Body.{Body}
use Rattle.hhbc_repo.specs.declared.body.Position.{Position}
use Rattle.hhbc_repo.specs.declared.link_fault.LinkFault.{LinkFault}
use Rattle.hhbc_repo.specs.declared.link_fault.LinkKind.TheVariants as kinds
use Rattle.hhbc_repo.specs.declared.parts.BodyParts.{BodyParts}
use Rattle.hhbc_repo.specs.declared.parts.ClassParts.{ClassParts}
use Rattle.hhbc_repo.specs.declared.parts.PropertyParts.{PropertyParts}
use Rattle.hhbc_repo.specs.declared.repo.Class.{Class}
use Rattle.hhbc_repo.specs.declared.repo.Const.{Const}
use Rattle.hhbc_repo.specs.Bodies as repository
use Rattle.hhbc_repo.specs.Canonical.{canonical}
use Rattle.hhbc_repo.specs.Claims.{position_claims_within, body_claims_within, property_claims_within, class_claims_within, claims_within}
use Rattle.hhbc_repo.specs.Fits.{body_fits, class_fits, property_fits, initial_fits, parts_fit}
use Rattle.hhbc_repo.specs.Linked.{Linked}
use Rattle.hhbc_repo.specs.LinkFaults.{Name, Whole, along, ancestors, as_it_is, body_faults, check, class_names, differ_from, each_class, faults, first_class, member_checks, names, properties, property_checks, stated_faults}
use Rattle.hhbc_repo.specs.LookUps.{methods_in}
use Rattle.hhbc_repo.specs.Names.{distinct}
use Rattle.hhbc_repo.specs.Resolved.{resolved, resolved_body, resolved_class, resolved_property}
use Rattle.hhbc_repo.specs.Spelled.{HasSpelling}
use Rattle.hhbc_repo.specs.TypeFits.{type_fits}
use Rattle.hhbc_repo.specs.Within.{Bounds, bounds_of, assert_within, code_within, position_within, in_limits, body_within}
use Rattle.hhbc_repo.proofs.BodiesPass.{all_pass}
use Rattle.hhbc_repo.proofs.NoFaults.{empty_left, empty_right, passed}
use Rattle.hhbc_repo.proofs.PartsThatFit.{class_facts}
use Rattle.hhbc_repo.proofs.SoundLinks.{linked_class_names}
use Rattle.hhbc_repo.proofs.WithinRanges.{body_links, methods_fit, stated_links}

-- ---- bodies

positions_claim : (b : Bounds) (ps : List Position) → list_all (position_within b) ps ≡ true → list_all (position_claims_within b) ps ≡ true
positions_claim b [] h = refl
positions_claim b (p ∷ ps) h =
    let x = and_parts (position_within b p) (list_all (position_within b) ps) h in
    let y = and_parts (list_all (assert_within b) p.asserts) (code_within b p.code) x.0 in
    and_from (position_claims_within b p) (list_all (position_claims_within b) ps) y.0 (positions_claim b ps x.1)

body_claims : (classes : ℕ) (b : Body) → body_within classes b ≡ true → body_claims_within classes b ≡ true
body_claims classes b h =
    let stated = where_there (is_proper classes) b.stated in
    let each = list_all (position_within (bounds_of classes b)) b.positions in
    let x = and_parts (is_word b.name) (list_all is_word b.locals && (distinct b.locals && (in_limits b && (stated && each)))) h in
    let y = and_parts (list_all is_word b.locals) (distinct b.locals && (in_limits b && (stated && each))) x.1 in
    let z = and_parts (distinct b.locals) (in_limits b && (stated && each)) y.1 in
    let u = and_parts (in_limits b) (stated && each) z.1 in
    let v = and_parts stated each u.1 in
    and_from stated (list_all (position_claims_within (bounds_of classes b)) b.positions) v.0 (positions_claim (bounds_of classes b) b.positions v.1)

-- ---- properties

module _ (w : Whole) where
  abbrev count : ℕ
  count = length (class_names w)

  properties_claim : (owner : Name) (before : List Name) (ps : List PropertyParts) → list_all property_fits ps ≡ true → property_checks w owner before ps ≡ []
      → list_all (property_claims_within count) (map (resolved_property w) ps) ≡ true
  properties_claim owner before [] f h = refl
  properties_claim owner before (p ∷ ps) f h =
      let here = check (not (names before p.name)) kinds.DuplicateProperty owner p.name 0 in
      let more = property_checks w owner (before ++ p.name ∷ []) ps in
      let rest = empty_right here (stated_faults w owner p.stated ++ more) h in
      let x = and_parts (property_fits p) (list_all property_fits ps) f in
      let y = and_parts (is_word p.name) (initial_fits p.initial && where_there type_fits p.stated) x.0 in
      let z = and_parts (initial_fits p.initial) (where_there type_fits p.stated) y.1 in
      and_from (property_claims_within count (resolved_property w p)) (list_all (property_claims_within count) (map (resolved_property w) ps))
      (stated_links w owner p.stated z.1 (empty_left (stated_faults w owner p.stated) more rest))
      (properties_claim owner (before ++ p.name ∷ []) ps x.1 (empty_right (stated_faults w owner p.stated) more rest))

  classes_claim : (n : ℕ) (cs : List ClassParts) → list_all class_fits cs ≡ true → each_class (member_checks w) n cs ≡ []
      → list_all (body_claims_within count) (methods_in (map (resolved_class w) cs)) ≡ true → list_all (class_claims_within count) (map (resolved_class w) cs) ≡ true
  classes_claim n [] f h k = refl
  classes_claim n (c ∷ cs) f h k =
      let d = resolved_class w c in
      let ds = map (resolved_class w) cs in
      let now = member_checks w n c in
      let more = each_class (member_checks w) (suc n) cs in
      let consts = differ_from kinds.DuplicateName c.name as_it_is [] (map (λ (k : Const). k.name) c.consts) in
      let props = property_checks w c.name (along (properties w) (ancestors w n)) c.props in
      let methods = differ_from kinds.DuplicateName c.name as_it_is [] (map (λ (b : BodyParts). b.name) c.methods) in
      let x = and_parts (class_fits c) (list_all class_fits cs) f in
      let m = and_parts (list_all (body_claims_within count) d.methods) (list_all (body_claims_within count) (methods_in ds))
      (sym (list_all-append (body_claims_within count) d.methods (methods_in ds)) ∙ k) in
      and_from (class_claims_within count d) (list_all (class_claims_within count) ds)
      (and_from (list_all (property_claims_within count) d.props) (list_all (body_claims_within count) d.methods)
      (properties_claim c.name (along (properties w) (ancestors w n)) c.props (class_facts c x.0).props
      (empty_left props methods (empty_right consts (props ++ methods) (empty_left now more h)))) m.0)
      (classes_claim (suc n) cs x.1 (empty_right now more h) m.1)

  pub linked_claims : parts_fit w.functions w.classes ≡ true → faults w ≡ [] → claims_within (resolved w) ≡ true
  linked_claims h e =
      let p = and_parts (list_all body_fits w.functions) (list_all class_fits w.classes) h in
      let q = passed w e in
      let all = all_pass w body_fits (body_claims_within count) (λ b owner f k. body_claims count (resolved_body w b) (body_links w b owner f k)) p.0 (methods_fit w.classes p.1) q.bodies in
      let fs = map (resolved_body w) w.functions in
      let cs = map (resolved_class w) w.classes in
      let s = and_parts (list_all (body_claims_within count) fs) (list_all (body_claims_within count) (methods_in cs)) (sym (list_all-append (body_claims_within count) fs (methods_in cs)) ∙ all) in
      subst (λ (n : ℕ). (list_all (body_claims_within n) fs && list_all (class_claims_within n) cs) ≡ true) (sym (ap (λ (l : List Name). length l) (linked_class_names w)))
      (and_from (list_all (body_claims_within count) fs) (list_all (class_claims_within count) cs) s.0 (classes_claim first_class w.classes p.1 q.members s.1))

-- a repository that has a spelling
pub claims_hold : (r : Linked) → HasSpelling r → claims_within r ≡ true
claims_hold r h = subst (λ (s : Linked). claims_within s ≡ true) (sym h.links.is) (linked_claims (canonical r) h.fits h.links.sound)
