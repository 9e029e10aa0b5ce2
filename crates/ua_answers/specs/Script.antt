-- Scripts: what their lines request.
use Rattle.std.specs.Prelude.{◌≡◌, ℕ, cond, List, [], ◌∷◌, ◌++◌, Option, Some, None, Result, Ok, Err, codes}
use Rattle.std.specs.List.{AllZip}
use Rattle.ua_builtin.specs.Exact.{◌>>=◌}
use Rattle.ua_builtin.specs.declared.node_id.NodeId.{NodeId}
use Rattle.ua_nodes.specs.NodeFile.{FileLine, node_lines, fields, has_short_fields, NamesId}
use Rattle.ua_nodes.specs.TypeName.{type_denoted}
use Rattle.ua_nodes.specs.ValueText.{value_denoted}
use Rattle.ua_variant.specs.Data.{VariantData}
use Rattle.ua_variant.specs.View.{variant_of}
use Rattle.ua_variant.specs.declared.values.Variant.{Variant}
use Rattle.ua_answers.specs.declared.fault.ScriptFault.{ScriptFault}
use Rattle.ua_answers.specs.declared.fault.ScriptFault.TheVariants.{Line, OutOfMemory}
use Rattle.ua_answers.specs.declared.fault.ScriptLineFault.{ScriptLineFault}
use Rattle.ua_answers.specs.declared.fault.ScriptLineFault.TheVariants.{Bad, NoMemory}
use Rattle.ua_answers.specs.declared.script.ScriptLine.{ScriptLine}
use Rattle.ua_answers.specs.declared.script.Step.{Step}
use Rattle.ua_answers.specs.declared.script.Step.TheVariants.{Read, Write, Renew}

-- ---- the fields of a line

-- the index range of a text: null if it is empty
abbrev pub range_of : List ℕ → Option (List ℕ)
range_of [] = None
range_of (c ∷ cs) = Some (c ∷ cs)

-- the index range in the fields after a NodeId: null if there is none
abbrev pub range_denoted : List (List ℕ) → Option (Option (List ℕ))
range_denoted [] = Some None
range_denoted (text ∷ []) = cond (has_short_fields text) (Some (range_of text)) None
range_denoted (text ∷ (more ∷ rest)) = None

-- the value that a type and a text denote
abbrev pub typed_denoted : List ℕ → List ℕ → Option VariantData
typed_denoted kind text = type_denoted kind >>= λ t. value_denoted t.0 t.1 text

-- `read`, a NodeId and perhaps an index range
pub record AsksRead (fields : List (List ℕ)) (node : NodeId) (range : Option (List ℕ)) : Type 0 where
  pub id : List ℕ
  pub rest : List (List ℕ)
  pub parts : fields ≡ codes "read" ∷ id ∷ rest
  pub names : NamesId id node
  pub part : range_denoted rest ≡ Some range

-- `write`, a NodeId, a type and a value
pub record AsksWrite (fields : List (List ℕ)) (node : NodeId) (value : VariantData) : Type 0 where
  pub id : List ℕ
  pub kind : List ℕ
  pub text : List ℕ
  pub parts : fields ≡ codes "write" ∷ id ∷ kind ∷ text ∷ []
  pub names : NamesId id node
  pub denotes : typed_denoted kind text ≡ Some value

-- what the fields of a line request: a Read, a Write, or with `renew` alone a token renewal
abbrev pub AsksForStep : List (List ℕ) → Step → Type 0
AsksForStep fields (Read node range) = AsksRead fields node range
AsksForStep fields (Write node value) = AsksWrite fields node (variant_of value)
AsksForStep fields Renew = fields ≡ codes "renew" ∷ []

-- the fields request nothing
abbrev pub AsksNothing : List (List ℕ) → Type 0
AsksNothing fields = (step : Step) → AsksForStep fields step → ⊥

-- what was parsed from the fields is what they request, unless an allocation failed
abbrev pub GivesStep : List (List ℕ) → Result Step ScriptLineFault → Type 0
GivesStep fields (Ok step) = AsksForStep fields step
GivesStep fields (Err Bad) = AsksNothing fields
GivesStep fields (Err NoMemory) = Unit {0}

-- the text of the first field, and the text after it, which names a range as the other fields do
pub record IsCutBehindFirst (text first behind : List ℕ) : Type 0 where
  pub rest : List (List ℕ)
  pub parts : fields text ≡ first ∷ rest
  pub part : range_denoted rest ≡ range_denoted (fields behind)

-- what was parsed from a field is the NodeId that it names, unless an allocation failed
abbrev pub GivesIdOfScriptField : List ℕ → Result NodeId ScriptLineFault → Type 0
GivesIdOfScriptField text (Ok id) = NamesId text id
GivesIdOfScriptField text (Err Bad) = (id : NodeId) → NamesId text id → ⊥
GivesIdOfScriptField text (Err NoMemory) = Unit {0}

-- what was parsed from two fields is the value that they denote, unless an allocation failed
abbrev pub GivesValue : List ℕ → List ℕ → Result Variant ScriptLineFault → Type 0
GivesValue kind text (Ok value) = typed_denoted kind text ≡ Some (variant_of value)
GivesValue kind text (Err Bad) = typed_denoted kind text ≡ None
GivesValue kind text (Err NoMemory) = Unit {0}

-- ---- a whole script

-- a line requests the step that has its number
abbrev pub IsLineOf : FileLine → ScriptLine → Type 0
IsLineOf line step = (line.number ≡ step.number) × AsksForStep (fields line.text) step.step

-- the lines request the steps, each line its own
abbrev pub AsksFor : List ℕ → List ScriptLine → Type 0
AsksFor text steps = AllZip IsLineOf (node_lines text) steps

-- the first line that requests nothing
pub record IsFirstBadScriptLine (lines : List FileLine) (number : ℕ) : Type 0 where
  pub front : List FileLine
  pub line : List ℕ
  pub back : List FileLine
  pub steps : List ScriptLine
  pub parts : lines ≡ front ++ record { number = number; text = line } ∷ back
  pub good : AllZip IsLineOf front steps
  pub bad : AsksNothing (fields line)

-- what a fault tells of a script
abbrev pub RefusesScriptLines : List ℕ → ScriptFault → Type 0
RefusesScriptLines text (Line number) = IsFirstBadScriptLine (node_lines text) number
RefusesScriptLines text OutOfMemory = Unit {0}
