use Rattle.std.proofs.Common.{◌≡◌, ◌∷◌, [], sym, ◌∙◌}
use Rattle.std.proofs.lemmas.Result.{err_from_is_err_and}
use Rattle.ua_nodes.specs.declared.fault.LineReason.TheVariants.{Access, Kind}
use Rattle.ua_nodes.specs.NodeFile.{fields}
use Rattle.ua_nodes.proofs.Reasons.{bad_access, bad_kind}
use Rattle.ua_nodes.proofs.Faults.{ok_or_none, known, refused_id, refused_name, refused_value}
use Rattle.ua_nodes.proofs.node_file.parse_node.Goals as goal

pub returns-in_err-id : goal.returns-in_err-id
returns-in_err-id c =
    let f = c.in_ok-fields.fields in
    let is : fields c.args.line.now ≡ f.id.now ∷ f.access.now ∷ f.name.now ∷ f.kind.now ∷ f.value.now ∷ [] =
    rw c.in_ok-fields.ensures.ok_part at c.split_fields.ensures in
    let p = err_from_is_err_and c.from_residual-in_err-id.result c.from_residual-in_err-id.ensures.1 in
    rw (p.1, p.2) (refused_id c.args.line.now f.id.now f.access.now f.name.now f.kind.now f.value.now c.in_err-id.field-0.0
    (record { is = is }) c.in_err-id.ensures)

pub returns-in_err-access : goal.returns-in_err-access
returns-in_err-access c =
    let f = c.in_ok-fields.fields in
    let is : fields c.args.line.now ≡ f.id.now ∷ f.access.now ∷ f.name.now ∷ f.kind.now ∷ f.value.now ∷ [] =
    rw c.in_ok-fields.ensures.ok_part at c.split_fields.ensures in
    let p = err_from_is_err_and c.from_residual-in_err-access.result c.from_residual-in_err-access.ensures.1 in
    let none = ok_or_none c.parse_access.result Access c.in_err-access.field-0.0 (sym c.in_err-access.was ∙ c.ok_or-2.ensures.value) in
    rw (p.1, p.2) (known c.args.line.now Access c.in_err-access.field-0.0 none.1
    (bad_access c.args.line.now f.id.now f.access.now f.name.now f.kind.now f.value.now c.in_ok-id.id (record { is = is }) c.in_ok-id.ensures
    (sym c.parse_access.ensures ∙ none.0)))

pub returns-in_err-name : goal.returns-in_err-name
returns-in_err-name c =
    let f = c.in_ok-fields.fields in
    let is : fields c.args.line.now ≡ f.id.now ∷ f.access.now ∷ f.name.now ∷ f.kind.now ∷ f.value.now ∷ [] =
    rw c.in_ok-fields.ensures.ok_part at c.split_fields.ensures in
    let p = err_from_is_err_and c.from_residual-in_err-name.result c.from_residual-in_err-name.ensures.1 in
    rw (p.1, p.2) (refused_name c.args.line.now f.id.now f.access.now f.name.now f.kind.now f.value.now c.in_ok-id.id c.in_ok-access.access
    c.in_err-name.field-0.0 (record { is = is }) c.in_ok-id.ensures (sym c.parse_access.ensures ∙ c.in_ok-access.ensures.ok_part) c.in_err-name.ensures)

pub returns-in_err-kind : goal.returns-in_err-kind
returns-in_err-kind c =
    let f = c.in_ok-fields.fields in
    let is : fields c.args.line.now ≡ f.id.now ∷ f.access.now ∷ f.name.now ∷ f.kind.now ∷ f.value.now ∷ [] =
    rw c.in_ok-fields.ensures.ok_part at c.split_fields.ensures in
    let p = err_from_is_err_and c.from_residual-in_err-kind.result c.from_residual-in_err-kind.ensures.1 in
    let none = ok_or_none c.parse_type.result Kind c.in_err-kind.field-0.0 (sym c.in_err-kind.was ∙ c.ok_or-3.ensures.value) in
    rw (p.1, p.2) (known c.args.line.now Kind c.in_err-kind.field-0.0 none.1
    (bad_kind c.args.line.now f.id.now f.access.now f.name.now f.kind.now f.value.now c.in_ok-id.id c.in_ok-access.access c.in_ok-name.name
    (record { is = is }) c.in_ok-id.ensures (sym c.parse_access.ensures ∙ c.in_ok-access.ensures.ok_part)
    c.in_ok-name.ensures (sym c.parse_type.ensures.denoted ∙ none.0)))

pub returns-in_err-value : goal.returns-in_err-value
returns-in_err-value c =
    let f = c.in_ok-fields.fields in
    let is : fields c.args.line.now ≡ f.id.now ∷ f.access.now ∷ f.name.now ∷ f.kind.now ∷ f.value.now ∷ [] =
    rw c.in_ok-fields.ensures.ok_part at c.split_fields.ensures in
    let p = err_from_is_err_and c.from_residual-in_err-value.result c.from_residual-in_err-value.ensures.1 in
    rw (p.1, p.2) (refused_value c.args.line.now f.id.now f.access.now f.name.now f.kind.now f.value.now c.in_ok-id.id c.in_ok-access.access c.in_ok-name.name
    (c.in_ok-kind.kind, c.in_ok-kind.array) c.in_err-value.field-0.0 (record { is = is }) c.in_ok-id.ensures (sym c.parse_access.ensures
    ∙ c.in_ok-access.ensures.ok_part)
    c.in_ok-name.ensures (sym c.parse_type.ensures.denoted ∙ c.in_ok-kind.ensures.ok_part) c.in_err-value.ensures.none)
