-- Bodies that fit and pass the checks of linking come back: their canonical parts fit, link to the same bodies and pass the checks.
use Rattle.std.proofs.Common.{◌≡◌, ◌≤◌, ℕ, true, List, [], ◌∷◌, ◌++◌, map, flat_map, length, option_map, codes, refl, sym, ap, ap₂, subst, ◌∙◌, arith}
use Rattle.std.specs.List.{list_all}
use Rattle.std.proofs.lemmas.Bool.{and_parts}
use Rattle.std.proofs.lemmas.List.{length-map}
use Rattle.std.proofs.Math.Seq.{take-append_seam, drop-append_seam}
use Rattle.hhbc_repo.specs.declared.body.Position.{Position}
use Rattle.hhbc_repo.specs.declared.link_fault.LinkKind.TheVariants as reasons
use Rattle.hhbc_repo.specs.declared.parts.BodyParts.{BodyParts}
use Rattle.hhbc_repo.specs.declared.parts.PositionParts.{PositionParts}
use Rattle.hhbc_repo.specs.declared.parts.TypeParts.{TypeParts}
use Rattle.hhbc_repo.specs.Canonical.{position_targets, is_named, canonical_position, canonical_body}
use Rattle.hhbc_repo.specs.Fits.{item_fits, position_fits, body_fits}
use Rattle.hhbc_repo.specs.LinkFaults.{Name, Whole, Place, as_it_is, dollar, class_names, within, differ_from, locals_of, labels_of, position_in, positions_of, stated_faults, position_faults, limit_faults, body_faults}
use Rattle.hhbc_repo.proofs.Relabelled.{new_label, relabelled_position}
use Rattle.hhbc_repo.specs.Resolved.{label_number, resolved_position, resolved_item, resolved_body}
use Rattle.hhbc_repo.proofs.AlikeWholes.{place, type_same, stated_faults_same}
use Rattle.hhbc_repo.proofs.CanonicalItems.{positions_fit, linked_positions, label_among, items_fit, items_labelled, targets_named}
use Rattle.hhbc_repo.proofs.CodesBack.{position_back}
use Rattle.hhbc_repo.proofs.ItemsBack.{nests_back, nesting_back, regions_back}
use Rattle.hhbc_repo.proofs.LabelsBack.{label_back, label_fits, label_listed, labels_differ, positions_back}
use Rattle.hhbc_repo.proofs.TypesBack.{stated_back}
use Rattle.hhbc_repo.proofs.NoFaults.{empty_left, empty_right, Faultless, faultless}
use Rattle.hhbc_repo.proofs.PartsThatFit.{BodyFits, body_facts, body_from}
use Rattle.hhbc_repo.proofs.Checking.{both_pass}
use Rattle.hhbc_repo.proofs.RelabelledPositions.{Renamed, positions_fit_still, positions_faultless, positions_resolve}
use Rattle.hhbc_repo.proofs.RelaidWholes.{relaid_items, relaid_body, relaid, relaid_alike}
use Rattle.hhbc_repo.proofs.WithinLimits.{limits_hold}

faultless_with : (p : Place) → Faultless p → body_faults p ≡ []
faultless_with p f =
    let locals = differ_from reasons.DuplicateName p.owner dollar [] (locals_of p.body) in
    let labels = differ_from reasons.DuplicateLabel p.owner as_it_is [] (labels_of p.body) in
    let stated = stated_faults p.whole p.owner p.body.stated in
    let each = flat_map (position_faults p) (positions_of p.body) in
    both_pass (limit_faults p) (locals ++ (labels ++ (stated ++ each))) f.limits
    (both_pass locals (labels ++ (stated ++ each)) f.locals (both_pass labels (stated ++ each) f.labels (both_pass stated each f.stated f.positions)))

-- ---- a body

pub record BodyBack (w : Whole) (b : BodyParts) (owner : Name) : Type 0 where
  pub same : canonical_body (class_names w) (resolved_body w b) ≡ relaid_body w b
  pub fits : body_fits (relaid_body w b) ≡ true
  pub resolves : resolved_body (relaid w) (relaid_body w b) ≡ resolved_body w b
  pub passes : body_faults (place (relaid w) (relaid_body w b) owner) ≡ []

module _ (w : Whole) (b : BodyParts) (owner : Name) where
  abbrev all_names : List Name
  all_names = class_names w

  abbrev new : Name → Name
  new = new_label w b

  positions_relabelled : (qs : List PositionParts) → list_all position_fits qs ≡ true → flat_map (position_faults (place w b owner)) qs ≡ []
      → map (canonical_position all_names (resolved_body w b)) (map (resolved_position w b) qs) ≡ map (relabelled_position new) qs
  positions_relabelled [] h e = refl
  positions_relabelled (q ∷ qs) h e =
      let p = and_parts (position_fits q) (list_all position_fits qs) h in
      let later = flat_map (position_faults (place w b owner)) qs in
      ap₂ (λ (x : PositionParts) (xs : List PositionParts). x ∷ xs)
      (position_back w b owner q p.0 (empty_left (position_faults (place w b owner) q) later e))
      (positions_relabelled qs p.1 (empty_right (position_faults (place w b owner) q) later e))

  positions_relaid : BodyFits b → Faultless (place w b owner) → flat_map position_in (relaid_items w b) ≡ map (relabelled_position new) (positions_of b)
  positions_relaid f e =
      positions_back all_names (resolved_body w b)
      ∙ ap (map (canonical_position all_names (resolved_body w b))) (linked_positions w b b.items)
      ∙ positions_relabelled (positions_of b) (positions_fit b.items f.items) e.positions

  few_positions : Faultless (place w b owner) → length (resolved_body w b).positions ≤ 65535
  few_positions e =
      let few = (limits_hold (place w b owner) e.limits).positions in
      let same : length (resolved_body w b).positions ≡ length (positions_of b) = ap length (linked_positions w b b.items) ∙ length-map (positions_of b) (resolved_position w b) in
      omega (arith, few, same)

  label_within : (name : Name) → label_number b name ≤ length (resolved_body w b).positions
  label_within name =
      let here = label_among 0 b.items name in
      let same : length (resolved_body w b).positions ≡ length (positions_of b) = ap length (linked_positions w b b.items) ∙ length-map (positions_of b) (resolved_position w b) in
      omega (arith, here, same)

  renamed : Faultless (place w b owner) → (name : Name) → is_named (resolved_body w b).positions (label_number b name) ≡ true → Renamed b (relaid_items w b) name (new name)
  renamed e name h = record {
    fits = label_fits (resolved_body w b) (label_number b name) (few_positions e) (label_within name) h;
    listed = label_listed all_names (resolved_body w b) (label_number b name) (label_within name) h;
    number = label_back all_names (resolved_body w b) (label_number b name) (few_positions e) (label_within name) h;
  }

  meant : list_all (is_named (resolved_body w b).positions) (flat_map position_targets (map (resolved_position w b) (positions_of b))) ≡ true
  meant = subst (λ (ps : List Position). list_all (is_named (resolved_body w b).positions) (flat_map position_targets ps) ≡ true) (linked_positions w b b.items) (targets_named (resolved_body w b).positions)

  items_fit_back : BodyFits b → Faultless (place w b owner) → list_all item_fits (relaid_items w b) ≡ true
  items_fit_back f e =
      items_fit (relaid_items w b)
      (ap (list_all position_fits) (positions_relaid f e)
      ∙ positions_fit_still w (relaid w) (relaid_alike w) b (relaid_items w b) owner new (is_named (resolved_body w b).positions) (renamed e) (positions_of b) meant (positions_fit b.items f.items))
      (items_labelled all_names (resolved_body w b) (λ p. label_fits (resolved_body w b) p (few_positions e)) 0 (resolved_body w b).positions)

  linked_back : BodyFits b → Faultless (place w b owner) → flat_map (resolved_item (relaid w) (relaid_body w b)) (relaid_items w b) ≡ flat_map (resolved_item w b) b.items
  linked_back f e =
      linked_positions (relaid w) (relaid_body w b) (relaid_items w b)
      ∙ ap (map (resolved_position (relaid w) (relaid_body w b))) (positions_relaid f e)
      ∙ positions_resolve w (relaid w) (relaid_alike w) b (relaid_items w b) owner new (is_named (resolved_body w b).positions) (renamed e) (positions_of b) meant
      ∙ sym (linked_positions w b b.items)

  limits_back : BodyFits b → Faultless (place w b owner) → limit_faults (place (relaid w) (relaid_body w b) owner) ≡ limit_faults (place w b owner)
  limits_back f e =
      let count : length (flat_map position_in (relaid_items w b)) ≡ length (positions_of b) = ap length (positions_relaid f e) ∙ length-map (positions_of b) (relabelled_position new) in
      ap₂ (λ (n deep : ℕ). within 255 (length (locals_of b)) owner (codes "locals")
      ++ (within 32 b.iters owner (codes "iterators") ++ (within 65535 n owner (codes "positions") ++ within 64 deep owner (codes "nesting"))))
      count (nesting_back all_names w b f.closed)

  passes_back : BodyFits b → Faultless (place w b owner) → Faultless (place (relaid w) (relaid_body w b) owner)
  passes_back f e = record {
    limits = limits_back f e ∙ e.limits;
    locals = e.locals;
    labels = labels_differ all_names (resolved_body w b) owner (few_positions e);
    stated = stated_faults_same w (relaid w) (relaid_alike w) owner b.stated ∙ e.stated;
    positions =
        ap (flat_map (position_faults (place (relaid w) (relaid_body w b) owner))) (positions_relaid f e)
        ∙ positions_faultless w (relaid w) (relaid_alike w) b (relaid_items w b) owner new (is_named (resolved_body w b).positions) (renamed e) (positions_of b) meant e.positions;
  }

  back_from : BodyFits b → Faultless (place w b owner) → BodyBack w b owner
  back_from f e = record {
    same = λ i. record {
      name = b.name;
      params = take-append_seam b.params b.locals i;
      locals = drop-append_seam b.params b.locals i;
      iters = b.iters;
      stated = stated_back w owner b.stated f.stated e.stated i;
      items = relaid_items w b;
    };
    fits = body_from (relaid_body w b) (record {
      name = f.name;
      params = f.params;
      locals = f.locals;
      few = f.few;
      stated = f.stated;
      closed = nests_back all_names w b f.closed;
      items = items_fit_back f e;
    });
    resolves = λ i. record {
      name = b.name;
      params = length b.params;
      locals = locals_of b;
      iters = b.iters;
      stated = option_map (λ (t : TypeParts). type_same w (relaid w) (relaid_alike w) t i) b.stated;
      positions = linked_back f e i;
      regions = regions_back all_names w b f.closed i;
    };
    passes = faultless_with (place (relaid w) (relaid_body w b) owner) (passes_back f e);
  }

  pub body_back : body_fits b ≡ true → body_faults (place w b owner) ≡ [] → BodyBack w b owner
  body_back h e = back_from (body_facts b h) (faultless (place w b owner) e)
