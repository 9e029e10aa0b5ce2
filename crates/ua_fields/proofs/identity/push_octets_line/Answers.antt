use Rattle.ua_wire.specs.Format.{flat}
use Rattle.ua_builtin.specs.ExtensionObject.{extension_object as object_format}
use Rattle.ua_texts.specs.Shown.{written_text}
use Rattle.ua_fields.specs.Leaves.{encoded_text, object_leaf, object_text}
use Rattle.ua_fields.proofs.Behind.{text_line}
use Rattle.ua_fields.proofs.Tokens.{object_line, same_text}
use Rattle.ua_fields.proofs.identity.push_octets_line.Goals as goal

pub returns : goal.returns
unfolding encoded_text
returns c =
    let x = c.args.object.now in
    let style = c.args.place.style in
    let margin = c.args.place.margin.now in
    let path = c.args.place.path.now in
    let bytes = written_text ((flat object_format).encodable x) ((flat object_format).canonical x) in
    object_line c.push_str.result style margin path _ _ x
    (text_line c.push_str.result style margin path _ _ _ _ (object_leaf x) c.in_ok-push_start.ensures
    (object_text x, rw c.is_null_object.ensures at c.in_ok-push_encoded_or_null.ensures, same_text style (object_text x))
    c.push_str.ensures.bytes)
