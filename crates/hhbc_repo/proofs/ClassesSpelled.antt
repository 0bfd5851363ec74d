-- Constants, properties, methods and classes that fit are spelled by their pieces, and these are told apart.
use Rattle.std.proofs.Common.{◌≡◌, true, false, ◌&&◌, List, [], ◌∷◌, ◌++◌, map, Option, Some, None, codes, refl, sym, ap, subst, ◌∙◌, append_assoc}
use Rattle.std.specs.List.{flat_map}
use Rattle.std.proofs.lemmas.Bool.{and_parts}
use Rattle.std.proofs.lemmas.List.{append-nil}
use Rattle.hhas_lex.specs.Spaced.{Spaced}
use Rattle.hhas_lex.specs.Spelling.{is_proper, is_word}
use Rattle.hhas_lex.specs.Tokens.{Directive, Word, Mark}
use Rattle.hack_values.specs.declared.cell.Cell.{Cell}
use Rattle.hack_values.specs.declared.cell.Cell.TheVariants as cells
use Rattle.type_lattice.specs.InRange.{where_there}
use Rattle.hhbc_repo.specs.declared.repo.Const.{Const}
use Rattle.hhbc_repo.specs.declared.parts.BodyParts.{BodyParts}
use Rattle.hhbc_repo.specs.declared.parts.ClassParts.{ClassParts}
use Rattle.hhbc_repo.specs.declared.parts.PropertyParts.{PropertyParts}
use Rattle.hhbc_repo.specs.LinkFaults.{Name}
use Rattle.hhbc_repo.specs.Languages.{Behind, Many, Perhaps}
use Rattle.hhbc_repo.specs.CodeSyntax.{AWord}
use Rattle.hhbc_repo.specs.TextSyntax.{AScalar, AnInitial, AConst, AProperty, Member, AsConst, AsProperty, AsMethod, AMember, consts_of, props_of, methods_of, AClass}
use Rattle.hhbc_repo.specs.TypeFits.{type_fits}
use Rattle.hhbc_repo.specs.Fits.{body_fits, scalar_fits, initial_fits, const_fits, property_fits, class_fits}
use Rattle.hhbc_repo.specs.CanonicalText.{line, spaced, tight, stated_pieces, cell_token, const_pieces, property_pieces, method_pieces, parent_pieces, member_pieces, class_pieces}
use Rattle.hhbc_repo.proofs.BodiesSpelled.{stated_spelled, stated_clear, body_spelled, body_clear}
use Rattle.hhbc_repo.proofs.Clearing.{tokens_in}
use Rattle.hhbc_repo.proofs.ClearTogether.{IsClear, none_clear, both_clear, each_clear, line_clear, spaced_clear, tight_clear}
use Rattle.hhbc_repo.proofs.PartsThatFit.{ClassFits, class_facts}
use Rattle.hhbc_repo.proofs.PiecesSpelled.{pieces_both, pieces_ended}
use Rattle.hhbc_repo.proofs.SpelledTogether.{many_spelled, picked, passed_over}

-- ---- values

scalar_spelled : (c : Cell) → scalar_fits c ≡ true → AScalar (cell_token c ∷ []) c
scalar_spelled cells.Null h = refl
scalar_spelled (cells.Bool true) h = refl
scalar_spelled (cells.Bool false) h = refl
scalar_spelled (cells.Int i) h = refl
scalar_spelled (cells.Str s) h = refl
scalar_spelled (cells.Vec elements) h = absurd (cc)
scalar_spelled (cells.Dict entries) h = absurd (cc)
scalar_spelled (cells.Keyset elements) h = absurd (cc)
scalar_spelled (cells.Obj n) h = absurd (cc)

initial_spelled : (c : Cell) → initial_fits c ≡ true → AnInitial (cell_token c ∷ []) c
initial_spelled cells.Null h = refl
initial_spelled (cells.Bool true) h = refl
initial_spelled (cells.Bool false) h = refl
initial_spelled (cells.Int i) h = refl
initial_spelled (cells.Str s) h = refl
initial_spelled (cells.Vec []) h = refl
initial_spelled (cells.Vec (x ∷ xs)) h = absurd (cc)
initial_spelled (cells.Dict []) h = refl
initial_spelled (cells.Dict (x ∷ xs)) h = absurd (cc)
initial_spelled (cells.Keyset []) h = refl
initial_spelled (cells.Keyset (x ∷ xs)) h = absurd (cc)
initial_spelled (cells.Obj n) h = absurd (cc)

initial_proper : (c : Cell) → initial_fits c ≡ true → is_proper (cell_token c) ≡ true
initial_proper cells.Null h = refl
initial_proper (cells.Bool true) h = refl
initial_proper (cells.Bool false) h = refl
initial_proper (cells.Int i) h = h
initial_proper (cells.Str s) h = h
initial_proper (cells.Vec elements) h = refl
initial_proper (cells.Dict entries) h = refl
initial_proper (cells.Keyset elements) h = refl
initial_proper (cells.Obj n) h = absurd (cc)

scalar_initial : (c : Cell) → scalar_fits c ≡ true → initial_fits c ≡ true
scalar_initial cells.Null h = refl
scalar_initial (cells.Bool b) h = refl
scalar_initial (cells.Int i) h = h
scalar_initial (cells.Str s) h = h
scalar_initial (cells.Vec elements) h = absurd (cc)
scalar_initial (cells.Dict entries) h = absurd (cc)
scalar_initial (cells.Keyset elements) h = absurd (cc)
scalar_initial (cells.Obj n) h = absurd (cc)

-- ---- members

const_spelled : (c : Const) → const_fits c ≡ true → AConst (tokens_in (const_pieces c)) c
const_spelled c h =
    let x = and_parts (is_word c.name) (scalar_fits c.value) h in
    let valued = cell_token c.value ∷ Mark 59 ∷ [] in
    record {
      rest = Word c.name ∷ Mark 61 ∷ valued;
      word = record {
        first = Word c.name ∷ [];
        second = Mark 61 ∷ valued;
        left = refl;
        right = record { rest = valued; word = record { first = cell_token c.value ∷ []; word = scalar_spelled c.value x.1; tokens = refl }; tokens = refl };
        tokens = refl;
      };
      tokens = refl;
    }

property_spelled : (p : PropertyParts) → property_fits p ≡ true → AProperty (tokens_in (property_pieces p)) p
property_spelled p h =
    let x = and_parts (is_word p.name) (initial_fits p.initial && where_there type_fits p.stated) h in
    let y = and_parts (initial_fits p.initial) (where_there type_fits p.stated) x.1 in
    let held = stated_pieces (codes "holds") p.stated in
    let ended = held ++ tight (Mark 59) ∷ [] in
    record {
      rest = Word p.name ∷ Mark 61 ∷ cell_token p.initial ∷ tokens_in ended;
      word = record {
        first = Word p.name ∷ [];
        second = Mark 61 ∷ cell_token p.initial ∷ tokens_in ended;
        left = refl;
        right = record {
          rest = cell_token p.initial ∷ tokens_in ended;
          word = record {
            first = cell_token p.initial ∷ [];
            second = tokens_in ended;
            left = initial_spelled p.initial y.0;
            right = pieces_ended _ held (tight (Mark 59) ∷ []) p.stated (stated_spelled (codes "holds") p.stated y.1);
            tokens = refl;
          };
          tokens = refl;
        };
        tokens = refl;
      };
      tokens = refl;
    }

const_clear : (c : Const) → const_fits c ≡ true → IsClear (const_pieces c)
const_clear c h =
    let x = and_parts (is_word c.name) (scalar_fits c.value) h in
    line_clear 1 (Directive (codes "const")) _ refl
    (spaced_clear (Word c.name) _ x.0
    (spaced_clear (Mark 61) _ refl (spaced_clear (cell_token c.value) _ (initial_proper c.value (scalar_initial c.value x.1)) (tight_clear (Mark 59) [] refl refl refl none_clear))))

property_clear : (p : PropertyParts) → property_fits p ≡ true → IsClear (property_pieces p)
property_clear p h =
    let x = and_parts (is_word p.name) (initial_fits p.initial && where_there type_fits p.stated) h in
    let y = and_parts (initial_fits p.initial) (where_there type_fits p.stated) x.1 in
    line_clear 1 (Directive (codes "property")) _ refl
    (spaced_clear (Word p.name) _ x.0
    (spaced_clear (Mark 61) _ refl
    (spaced_clear (cell_token p.initial) _ (initial_proper p.initial y.0)
    (both_clear (stated_pieces (codes "holds") p.stated) (tight (Mark 59) ∷ []) (stated_clear (codes "holds") refl p.stated y.1) (tight_clear (Mark 59) [] refl refl refl none_clear)))))

method_spelled : (b : BodyParts) → body_fits b ≡ true → AMember (tokens_in (method_pieces b)) (AsMethod b)
method_spelled b h = body_spelled 1 (codes "method") b h

method_clear : (b : BodyParts) → body_fits b ≡ true → IsClear (method_pieces b)
method_clear b h = body_clear 1 (codes "method") refl b h

-- ---- classes

abbrev members_of : ClassParts → List Member
members_of c = map AsConst c.consts ++ (map AsProperty c.props ++ (map AsMethod c.methods ++ []))

consts_kept : (c : ClassParts) → c.consts ≡ consts_of (members_of c)
consts_kept c =
    sym (picked consts_of AsConst (λ v ms. refl) c.consts (map AsProperty c.props ++ (map AsMethod c.methods ++ []))
    ∙ ap (λ l. c.consts ++ l)
    (passed_over consts_of AsProperty (λ v ms. refl) c.props (map AsMethod c.methods ++ []) ∙ passed_over consts_of AsMethod (λ v ms. refl) c.methods [])
    ∙ append-nil c.consts)

props_kept : (c : ClassParts) → c.props ≡ props_of (members_of c)
props_kept c =
    sym (passed_over props_of AsConst (λ v ms. refl) c.consts (map AsProperty c.props ++ (map AsMethod c.methods ++ []))
    ∙ picked props_of AsProperty (λ v ms. refl) c.props (map AsMethod c.methods ++ [])
    ∙ ap (λ l. c.props ++ l) (passed_over props_of AsMethod (λ v ms. refl) c.methods [])
    ∙ append-nil c.props)

methods_kept : (c : ClassParts) → c.methods ≡ methods_of (members_of c)
methods_kept c =
    sym (passed_over methods_of AsConst (λ v ms. refl) c.consts (map AsProperty c.props ++ (map AsMethod c.methods ++ []))
    ∙ passed_over methods_of AsProperty (λ v ms. refl) c.props (map AsMethod c.methods ++ [])
    ∙ picked methods_of AsMethod (λ v ms. refl) c.methods []
    ∙ append-nil c.methods)

members_spelled : (c : ClassParts) → ClassFits c → Many AMember (tokens_in (member_pieces c)) (members_of c)
members_spelled c f =
    let consts = flat_map const_pieces c.consts in
    let props = flat_map property_pieces c.props in
    let methods = flat_map method_pieces c.methods in
    subst (λ (ss : List Spaced). Many AMember (tokens_in ss) (members_of c)) (ap (λ ss. consts ++ (props ++ ss)) (append-nil methods))
    (many_spelled AMember AsConst const_pieces const_fits const_spelled c.consts f.consts (map AsProperty c.props ++ (map AsMethod c.methods ++ [])) (props ++ (methods ++ []))
    (many_spelled AMember AsProperty property_pieces property_fits property_spelled c.props f.props (map AsMethod c.methods ++ []) (methods ++ [])
    (many_spelled AMember AsMethod method_pieces body_fits method_spelled c.methods f.methods [] [] refl)))

parent_spelled : (o : Option Name) → Perhaps (Behind (Word (codes "extends") ∷ []) AWord) (tokens_in (parent_pieces o)) o
parent_spelled None = refl
parent_spelled (Some name) = record { rest = Word name ∷ []; word = refl; tokens = refl }

-- the pieces of a class behind its word and its name, one list after the other
abbrev braced : ClassParts → List Spaced
braced c = spaced (Mark 123) ∷ (member_pieces c ++ line 0 (Mark 125) ∷ [])

class_in_order : (c : ClassParts) → class_pieces c ≡ line 0 (Directive (codes "class")) ∷ spaced (Word c.name) ∷ (parent_pieces c.parent ++ braced c)
class_in_order c =
    let brace : List Spaced = spaced (Mark 123) ∷ [] in
    ap (λ ss. line 0 (Directive (codes "class")) ∷ spaced (Word c.name) ∷ ss) (append_assoc (parent_pieces c.parent) brace (member_pieces c ++ line 0 (Mark 125) ∷ []))

pub class_spelled : (c : ClassParts) → class_fits c ≡ true → AClass (tokens_in (class_pieces c)) c
class_spelled c h =
    let f = class_facts c h in
    record {
      members = members_of c;
      word = record {
        rest = Word c.name ∷ tokens_in (parent_pieces c.parent ++ braced c);
        word = record {
          first = Word c.name ∷ [];
          second = tokens_in (parent_pieces c.parent ++ braced c);
          left = refl;
          right = pieces_both _ _ (parent_pieces c.parent) (braced c) _ (parent_spelled c.parent)
              (record {
                rest = tokens_in (member_pieces c ++ line 0 (Mark 125) ∷ []);
                word = pieces_ended _ (member_pieces c) (line 0 (Mark 125) ∷ []) (members_of c) (members_spelled c f);
                tokens = refl;
              });
          tokens = refl;
        };
        tokens = ap tokens_in (class_in_order c);
      };
      consts = consts_kept c;
      props = props_kept c;
      methods = methods_kept c;
    }

parent_clear : (o : Option Name) → where_there is_word o ≡ true → IsClear (parent_pieces o)
parent_clear None h = none_clear
parent_clear (Some name) h = spaced_clear (Word (codes "extends")) _ refl (spaced_clear (Word name) [] h none_clear)

pub class_clear : (c : ClassParts) → class_fits c ≡ true → IsClear (class_pieces c)
class_clear c h =
    let f = class_facts c h in
    let consts = flat_map const_pieces c.consts in
    let props = flat_map property_pieces c.props in
    let methods = flat_map method_pieces c.methods in
    subst (λ (ss : List Spaced). IsClear ss) (sym (class_in_order c))
    (line_clear 0 (Directive (codes "class")) _ refl
    (spaced_clear (Word c.name) _ f.name
    (both_clear (parent_pieces c.parent) (braced c) (parent_clear c.parent f.parent)
    (spaced_clear (Mark 123) _ refl
    (both_clear (member_pieces c) (line 0 (Mark 125) ∷ [])
    (both_clear consts (props ++ methods) (each_clear const_pieces const_fits const_clear c.consts f.consts)
    (both_clear props methods (each_clear property_pieces property_fits property_clear c.props f.props)
    (each_clear method_pieces body_fits method_clear c.methods f.methods)))
    (line_clear 0 (Mark 125) [] refl none_clear))))))
