-- What words of a command line request: NodeIds, a type and a value.
use Rattle.std.specs.Prelude.{◌≡◌, ℕ, List, Option, Some, None, IsSome, Result, Ok, Err}
use Rattle.std.specs.List.{AllZip, Any}
use Rattle.ua_builtin.specs.NodeText.{NamesNode}
use Rattle.ua_builtin.specs.declared.node_id.NodeId.{NodeId}
use Rattle.ua_nodes.specs.Range.{range}
use Rattle.ua_answers.specs.Script.{typed_denoted}
use Rattle.ua_variant.specs.View.{variant_of}
use Rattle.ua_variant.specs.declared.values.Variant.{Variant}
use Rattle.ua_session.specs.declared.fault.WordFault.{WordFault}
use Rattle.ua_session.specs.declared.fault.WordFault.TheVariants.{BadNode, BadRange, BadValue, NoMemory}
use Rattle.ua_session.specs.declared.question.Question.{Question}
use Rattle.ua_session.specs.declared.question.Question.TheVariants.{Read, Write}

-- ---- one word

-- the text names no NodeId
abbrev pub NamesNoNode : List ℕ → Type 0
NamesNoNode text = (node : NodeId) → NamesNode node text → ⊥

-- what a word is parsed as is the NodeId that it names, unless an allocation failed
abbrev pub GivesIdOfWord : List ℕ → Result NodeId WordFault → Type 0
GivesIdOfWord text (Ok node) = NamesNode node text
GivesIdOfWord text (Err BadNode) = NamesNoNode text
GivesIdOfWord text (Err BadValue) = ⊥
GivesIdOfWord text (Err BadRange) = ⊥
GivesIdOfWord text (Err NoMemory) = Unit {0}

-- what two words are parsed as is the value that they denote, unless an allocation failed
abbrev pub GivesTyped : List ℕ → List ℕ → Result Variant WordFault → Type 0
GivesTyped kind text (Ok value) = typed_denoted kind text ≡ Some (variant_of value)
GivesTyped kind text (Err BadNode) = ⊥
GivesTyped kind text (Err BadRange) = ⊥
GivesTyped kind text (Err BadValue) = typed_denoted kind text ≡ None
GivesTyped kind text (Err NoMemory) = Unit {0}

-- there is no range, or it is the text of one (OPC 10000-4, 7.27)
abbrev pub IsRange : Option (List ℕ) → Type 0
IsRange None = Unit {0}
IsRange (Some text) = IsSome (range text)

-- there is a text that names no range
abbrev pub NamesNoRange : Option (List ℕ) → Type 0
NamesNoRange None = ⊥
NamesNoRange (Some text) = range text ≡ None

-- what the text of a range is parsed as is that text, null if there is none, unless an allocation
-- failed
abbrev pub GivesRange : Option (List ℕ) → Result (Option (List ℕ)) WordFault → Type 0
GivesRange part (Ok found) = (found ≡ part) × IsRange part
GivesRange part (Err BadNode) = ⊥
GivesRange part (Err BadValue) = ⊥
GivesRange part (Err BadRange) = NamesNoRange part
GivesRange part (Err NoMemory) = Unit {0}

-- ---- all words of a command

-- NodeIds are those that texts name, each its own
abbrev pub AreNodes : {A : Type 0} → (A → List ℕ) → List A → List NodeId → Type 0
AreNodes text_of texts nodes = AllZip (λ text node. NamesNode node (text_of text)) texts nodes

-- why texts are not parsed as NodeIds: one of them names none, or an allocation failed
abbrev pub NamesNoNodes : {A : Type 0} → (A → List ℕ) → List A → WordFault → Type 0
NamesNoNodes text_of texts BadNode = Any (λ text. NamesNoNode (text_of text)) texts
NamesNoNodes text_of texts BadValue = ⊥
NamesNoNodes text_of texts BadRange = ⊥
NamesNoNodes text_of texts NoMemory = Unit {0}

-- what the texts of nodes and of a range are parsed as is a Read of this attribute of these nodes,
-- in their order, or of this part of it; of two bad ones the first is told, a node before the range
abbrev pub GivesRead : {A : Type 0} → (A → List ℕ) → List A → ℕ → Option (List ℕ) → Result Question WordFault → Type 0
GivesRead text_of texts attribute part (Ok (Read nodes asked found)) = AreNodes text_of texts nodes.items × (asked ≡ attribute) × (found ≡ part) × IsRange part
GivesRead text_of texts attribute part (Ok (Write node value)) = ⊥
GivesRead text_of texts attribute part (Err BadRange) = ((nodes : List NodeId) × AreNodes text_of texts nodes) × NamesNoRange part
GivesRead text_of texts attribute part (Err fault) = NamesNoNodes text_of texts fault

-- what the texts of a node, a type and a value are parsed as is a Write of this value to this node;
-- of two bad ones the first is told
abbrev pub GivesWrite : List ℕ → List ℕ → List ℕ → Result Question WordFault → Type 0
GivesWrite id kind text (Ok (Read nodes attribute part)) = ⊥
GivesWrite id kind text (Ok (Write node value)) = NamesNode node id × (typed_denoted kind text ≡ Some (variant_of value))
GivesWrite id kind text (Err BadNode) = NamesNoNode id
GivesWrite id kind text (Err BadRange) = ⊥
GivesWrite id kind text (Err BadValue) = ((node : NodeId) × NamesNode node id) × (typed_denoted kind text ≡ None)
GivesWrite id kind text (Err NoMemory) = Unit {0}
