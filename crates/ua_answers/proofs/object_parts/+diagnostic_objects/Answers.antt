use Rattle.std.proofs.Common.{Option, codes, subst, sym}
use Rattle.ua_diagnostic.specs.Diagnostic.{DiagnosticData, diagnostic_within}
use Rattle.ua_diagnostic.specs.View.{diagnostic_fields_of}
use Rattle.json.specs.Tree.{json_tokens}
use Rattle.ua_answers.specs.ObjectParts.{diagnostic_members, diagnostic_object}
use Rattle.ua_answers.specs.Tokens.{PutsTokens}
use Rattle.ua_answers.proofs.Tokens.{object_around, object_whole, one_last, put_one}
use Rattle.ua_answers.proofs.object_parts.+diagnostic_objects.Goals as goal

pub put_fields-returns-in_ok-put_diagnostic-in-Some : goal.put_fields-returns-in_ok-put_diagnostic-in-Some
put_fields-returns-in_ok-put_diagnostic-in-Some t c =
    let fields = diagnostic_fields_of c.args.value.now in
    let names = c.args.names in
    subst (λ (o : Option DiagnosticData). PutsTokens c.end_object.result c.args.line.now c.end_object.new.self
    (json_tokens (diagnostic_object names (diagnostic_within o fields)))) (sym c.in-Some.is)
    (object_around c.end_object.result c.args.line.now c.begin_object.new.self c.put_diagnostic_members.new.line c.key.new.self
    c.put_diagnostic.new.line c.end_object.new.self (diagnostic_members names fields) (codes "inner")
    (diagnostic_object names c.in-Some.inner) (put_one c.in_ok-begin_object.ensures) c.in_ok-put_diagnostic_members.ensures
    (put_one c.in_ok-key-in-Some.ensures) c.in_ok-put_diagnostic-in-Some.ensures (one_last c.end_object.ensures))

pub put_fields-returns-in-None : goal.put_fields-returns-in-None
put_fields-returns-in-None t c =
    let fields = diagnostic_fields_of c.args.value.now in
    let names = c.args.names in
    subst (λ (o : Option DiagnosticData). PutsTokens c.end_object-in-None.result c.args.line.now c.end_object-in-None.new.self
    (json_tokens (diagnostic_object names (diagnostic_within o fields)))) (sym c.in-None.is)
    (object_whole c.end_object-in-None.result c.args.line.now c.begin_object.new.self c.put_diagnostic_members.new.line c.end_object-in-None.new.self
    (diagnostic_members names fields) (put_one c.in_ok-begin_object.ensures) c.in_ok-put_diagnostic_members.ensures
    (one_last c.end_object-in-None.ensures))
