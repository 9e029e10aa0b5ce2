use Rattle.std.proofs.Common.{ap, refl}
use Rattle.ua_answers.specs.ObjectParts.{code_object, expanded_object, localized_object, name_object, node_object}
use Rattle.ua_answers.proofs.PlainTokens.{leaf_known}
use Rattle.ua_answers.proofs.plain_object.put_plain_leaf.Goals as goal

pub returns-in-NodeId : goal.returns-in-NodeId
returns-in-NodeId c =
    leaf_known c.put_node.result c.args.line.now c.put_node.new.line c.args.names c.args.scalar.now _ (node_object c.in-NodeId.value) c.in-NodeId.is
    c.put_node.ensures refl

pub returns-in-ExpandedNodeId : goal.returns-in-ExpandedNodeId
returns-in-ExpandedNodeId c =
    leaf_known c.put_expanded.result c.args.line.now c.put_expanded.new.line c.args.names c.args.scalar.now _ (expanded_object c.get.result.now)
    c.in-ExpandedNodeId.is c.put_expanded.ensures (ap expanded_object c.get.ensures)

pub returns-in-StatusCode : goal.returns-in-StatusCode
returns-in-StatusCode c =
    leaf_known c.put_code.result c.args.line.now c.put_code.new.line c.args.names c.args.scalar.now _
    (code_object c.args.names c.in-StatusCode.value.code) c.in-StatusCode.is c.put_code.ensures refl

pub returns-in-QualifiedName : goal.returns-in-QualifiedName
returns-in-QualifiedName c =
    leaf_known c.put_qualified.result c.args.line.now c.put_qualified.new.line c.args.names c.args.scalar.now _ (name_object c.in-QualifiedName.value)
    c.in-QualifiedName.is c.put_qualified.ensures refl

pub returns-in-LocalizedText : goal.returns-in-LocalizedText
returns-in-LocalizedText c =
    leaf_known c.put_localized.result c.args.line.now c.put_localized.new.line c.args.names c.args.scalar.now _
    (localized_object c.get-in-LocalizedText.result.now) c.in-LocalizedText.is c.put_localized.ensures (ap localized_object c.get-in-LocalizedText.ensures)
