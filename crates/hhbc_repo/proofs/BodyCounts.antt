-- How many bodies there are.
use Rattle.std.proofs.Common.{◌≡◌, ◌+◌, List, ◌∷◌, length, ap, ◌∙◌, length-append}
use Rattle.std.proofs.lemmas.List.{length-map}
use Rattle.std.specs.List.{flat_map}
use Rattle.hhbc_repo.specs.declared.parts.ClassParts.{ClassParts}
use Rattle.hhbc_repo.specs.LinkFaults.{Whole, places, method_places, function_places}

pub places_start : (w : Whole) → length (places w) ≡ length w.functions + length (flat_map (method_places w) w.classes)
places_start w = length-append (function_places w) (flat_map (method_places w) w.classes) ∙ ap (λ n. n + length (flat_map (method_places w) w.classes)) (length-map w.functions _)

pub methods_next : (w : Whole) (c : ClassParts) (cs : List ClassParts) → length (flat_map (method_places w) (c ∷ cs)) ≡ length c.methods + length (flat_map (method_places w) cs)
methods_next w c cs = length-append (method_places w c) (flat_map (method_places w) cs) ∙ ap (λ n. n + length (flat_map (method_places w) cs)) (length-map c.methods _)
