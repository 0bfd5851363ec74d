-- What bodies and classes that fit are made of.
use Rattle.std.proofs.Common.{◌≡◌, true, false, ◌&&◌, nat_le, []}
use Rattle.std.specs.List.{list_all}
use Rattle.std.proofs.lemmas.Bool.{and_from, and_parts}
use Rattle.hhas_lex.specs.Spelling.{is_word}
use Rattle.type_lattice.specs.InRange.{where_there}
use Rattle.hhbc_repo.specs.declared.parts.BodyParts.{BodyParts}
use Rattle.hhbc_repo.specs.declared.parts.ClassParts.{ClassParts}
use Rattle.hhbc_repo.specs.Fits.{item_fits, nests, body_fits, const_fits, property_fits, class_fits}
use Rattle.hhbc_repo.specs.TypeFits.{type_fits}

pub record BodyFits (b : BodyParts) : Type 0 where
  pub name : is_word b.name ≡ true
  pub params : list_all is_word b.params ≡ true
  pub locals : list_all is_word b.locals ≡ true
  pub few : nat_le b.iters 65535 ≡ true
  pub stated : where_there type_fits b.stated ≡ true
  pub closed : nests b.items [] false ≡ true
  pub items : list_all item_fits b.items ≡ true

pub body_facts : (b : BodyParts) → body_fits b ≡ true → BodyFits b
body_facts b h =
    let params = list_all is_word b.params in
    let locals = list_all is_word b.locals in
    let few = nat_le b.iters 65535 in
    let stated = where_there type_fits b.stated in
    let closed = nests b.items [] false in
    let items = list_all item_fits b.items in
    let x = and_parts (is_word b.name) (params && (locals && (few && (stated && (closed && items))))) h in
    let y = and_parts params (locals && (few && (stated && (closed && items)))) x.1 in
    let z = and_parts locals (few && (stated && (closed && items))) y.1 in
    let u = and_parts few (stated && (closed && items)) z.1 in
    let v = and_parts stated (closed && items) u.1 in
    let q = and_parts closed items v.1 in
    record { name = x.0; params = y.0; locals = z.0; few = u.0; stated = v.0; closed = q.0; items = q.1 }

pub body_from : (b : BodyParts) → BodyFits b → body_fits b ≡ true
body_from b f =
    let params = list_all is_word b.params in
    let locals = list_all is_word b.locals in
    let few = nat_le b.iters 65535 in
    let stated = where_there type_fits b.stated in
    let closed = nests b.items [] false in
    let items = list_all item_fits b.items in
    and_from (is_word b.name) (params && (locals && (few && (stated && (closed && items))))) f.name
    (and_from params (locals && (few && (stated && (closed && items)))) f.params
    (and_from locals (few && (stated && (closed && items))) f.locals
    (and_from few (stated && (closed && items)) f.few (and_from stated (closed && items) f.stated (and_from closed items f.closed f.items)))))

pub record ClassFits (c : ClassParts) : Type 0 where
  pub name : is_word c.name ≡ true
  pub parent : where_there is_word c.parent ≡ true
  pub consts : list_all const_fits c.consts ≡ true
  pub props : list_all property_fits c.props ≡ true
  pub methods : list_all body_fits c.methods ≡ true

pub class_facts : (c : ClassParts) → class_fits c ≡ true → ClassFits c
class_facts c h =
    let parent = where_there is_word c.parent in
    let consts = list_all const_fits c.consts in
    let props = list_all property_fits c.props in
    let methods = list_all body_fits c.methods in
    let x = and_parts (is_word c.name) (parent && (consts && (props && methods))) h in
    let y = and_parts parent (consts && (props && methods)) x.1 in
    let z = and_parts consts (props && methods) y.1 in
    let u = and_parts props methods z.1 in
    record { name = x.0; parent = y.0; consts = z.0; props = u.0; methods = u.1 }

pub class_from : (c : ClassParts) → ClassFits c → class_fits c ≡ true
class_from c f =
    let parent = where_there is_word c.parent in
    let consts = list_all const_fits c.consts in
    let props = list_all property_fits c.props in
    let methods = list_all body_fits c.methods in
    and_from (is_word c.name) (parent && (consts && (props && methods))) f.name
    (and_from parent (consts && (props && methods)) f.parent (and_from consts (props && methods) f.consts (and_from props methods f.props f.methods)))
