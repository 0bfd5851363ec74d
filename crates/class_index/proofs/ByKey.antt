-- What keys give, where the names of a key are known.
use Rattle.std.proofs.Common.{◌≡◌, ◌<◌, ◌^◌, ℕ, sym, ap, ◌∙◌, ◌==◌, Some, Option, length, slice_get, arith}
use Rattle.std.proofs.lemmas.Option.{get_or_from_slice_get}
use Rattle.type_lattice.specs.declared.types.HType.{HType}
use Rattle.type_lattice.specs.declared.types.StrPart.TheVariants as strs
use Rattle.type_lattice.specs.Classes.{below}
use Rattle.hhbc_repo.specs.declared.body.Body.{Body}
use Rattle.hhbc_repo.specs.Linked.{Linked}
use Rattle.hhbc_repo.specs.Bodies.{tree_of}
use Rattle.hhbc_repo.specs.LookUps.{Sound, all_properties, property_owners, total}
use Rattle.hhbc_repo.proofs.Numbered.{numbers-get}
use Rattle.hhbc_repo.proofs.Numbering.{numbers_length}
use Rattle.class_index.specs.declared.keys.TypeKey.{TypeKey}
use Rattle.class_index.specs.declared.keys.TypeKey.TheVariants as keys
use Rattle.class_index.specs.Named.{AnyName, gives, key_names, names_of, takes}
use Rattle.class_index.specs.Reached.{borne}
use Rattle.class_index.proofs.Candidates.{has_below}

pub takes_is : (o : Option Body) (b : Body) (count : ℕ) → o ≡ Some b → (b.params == count) ≡ takes o count
takes_is o b count e = ap (λ (x : Option Body). takes x count) (sym e)

module _ (r : Linked) (key : TypeKey) (t : HType) (e : key ≡ keys.Prop t) (a : t.str ≡ strs.Any) where
  names_any : key_names key ≡ AnyName
  names_any = ap key_names e ∙ ap names_of a

  pub any_count : total (all_properties r) ≡ length (borne r (key_names key))
  any_count = sym (numbers_length 0 (total (all_properties r))) ∙ ap (λ n. length (borne r n)) (sym names_any)

  pub any_fits : Sound r → (at : ℕ) → at < length (borne r (key_names key)) → at < 2 ^ 32
  any_fits sound at h = let c = any_count in let l = sound.property_count in omega (arith, h, c, l)

  pub any_at : (at : ℕ) → at < length (borne r (key_names key)) → slice_get (borne r (key_names key)) at ≡ Some at
  any_at at h =
      let c = any_count in
      ap (λ n. slice_get (borne r n) at) names_any ∙ numbers-get 0 (total (all_properties r)) at (omega (arith, h, c)) ∙ ap (λ (k : ℕ). Some k) (omega arith)

  pub any_gives : Sound r → (c q d : ℕ) → q < total (all_properties r) → slice_get (property_owners r) q ≡ Some d → below (tree_of r) c d ≡ gives r (key_names key) q c
  any_gives sound c q d h o =
      ap (below (tree_of r) c) (sym (get_or_from_slice_get (property_owners r) q d 0 o)) ∙ sym (has_below r sound c q h) ∙ ap (λ n. gives r n q c) (sym names_any)
