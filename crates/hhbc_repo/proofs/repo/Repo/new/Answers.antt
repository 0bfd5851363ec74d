use Rattle.std.proofs.Common.{◌<◌, ◌+◌, ◌^◌, ◌++◌, ◌∷◌, [], ℕ, List, length, codes, ap, ap₂, sym, subst₂, ◌∙◌}
use Rattle.hhbc_repo.specs.declared.body.Body.{Body}
use Rattle.hhbc_repo.specs.declared.repo.Class.{Class}
use Rattle.hhbc_repo.specs.MemberNames.{MemberNames}
use Rattle.hhbc_repo.specs.Bodies.{built_in_names, built_in_tree}
use Rattle.hhbc_repo.specs.Homes.{homes_of}
use Rattle.hhbc_repo.specs.LookUps.{function_names, names_of_classes, parents_of_classes, no_names, method_names, property_names, property_owners_from, total}
use Rattle.hhbc_repo.specs.Places.{bearers, together}
use Rattle.hhbc_repo.proofs.HomesFound.{bodies_fit}
use Rattle.hhbc_repo.proofs.repo.Repo.new.Goals as goal

abbrev members : ℕ → List (List (List ℕ)) → MemberNames
members first names = record { first = first; names = names }

pub methods_of-requires-clause-fits : goal.methods_of-requires-clause-fits
methods_of-requires-clause-fits c =
    subst₂ (λ (fs : List Body) (cs : List Class). length fs + total (method_names cs) < 2 ^ 32) (sym c.as_slice-4.ensures) (sym c.as_slice-5.ensures)
    (bodies_fit c.args.functions c.args.classes c.requires.sound.body_count)

pub invariant_of-result : goal.invariant_of-result
invariant_of-result c =
    let list = c.in_ok-class_list.ensures ∙ ap (λ (cs : List Class). built_in_names ++ names_of_classes cs) c.as_slice-2.ensures in
    record {
      functions_are = c.in_ok-function_table.ensures ∙ ap (λ (bs : List Body). function_names bs) c.as_slice.ensures;
      table_is = c.in_ok-class_table.ensures ∙ c.as_slice-3.ensures ∙ list;
      list_is = list;
      methods_are = c.in_ok-methods.ensures ∙ ap₂ (λ (fs : List Body) (cs : List Class). members (length fs) (([] ∷ no_names) ++ method_names cs)) c.as_slice-4.ensures c.as_slice-5.ensures;
      properties_are = c.in_ok-properties.ensures ∙ ap (λ (cs : List Class). members 0 (((codes "message" ∷ []) ∷ no_names) ++ property_names cs)) c.as_slice-6.ensures;
      tree_is = c.in_ok-tree.ensures ∙ ap (λ (cs : List Class). built_in_tree ++ parents_of_classes cs) c.as_slice-7.ensures;
      homes_are = c.in_ok-homes.ensures ∙ ap₂ (λ (fs : List Body) (cs : List Class). homes_of fs cs) c.as_slice-8.ensures c.as_slice-9.ensures;
      owners_are = c.in_ok-owners.ensures ∙ ap (λ (m : MemberNames). property_owners_from 0 m.names) (c.in_ok-properties.ensures ∙ ap (λ (cs : List Class). members 0 (((codes "message" ∷ []) ∷ no_names) ++ property_names cs)) c.as_slice-6.ensures);
      method_bearers_are = λ name. c.in_ok-named_methods.ensures name
          ∙ ap (λ (m : MemberNames). bearers m.first (together m.names) name)
          (c.in_ok-methods.ensures ∙ ap₂ (λ (fs : List Body) (cs : List Class). members (length fs) (([] ∷ no_names) ++ method_names cs)) c.as_slice-4.ensures c.as_slice-5.ensures);
      property_bearers_are = λ name. c.in_ok-named_properties.ensures name
          ∙ ap (λ (m : MemberNames). bearers m.first (together m.names) name)
          (c.in_ok-properties.ensures ∙ ap (λ (cs : List Class). members 0 (((codes "message" ∷ []) ∷ no_names) ++ property_names cs)) c.as_slice-6.ensures);
      sound = c.requires.sound;
      spelling = c.requires.spelled;
    }
