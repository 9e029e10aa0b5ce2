-- What is put into a JSON writer.
use Rattle.std.specs.Prelude.{◌≡◌, List, [], ◌∷◌, ◌++◌, Result, OnOk}
use Rattle.json.specs.Token.{Token}
use Rattle.json.specs.Token as token
use Rattle.json.specs.Tree.{json_tokens}
use Rattle.json.specs.Written.{Written}
use Rattle.ua_variant.specs.Data.{ScalarData}
use Rattle.ua_answers.specs.Json.{Field, scalar_json}

-- the tokens of members of an object
abbrev pub fields_tokens : List Field → List Token
fields_tokens [] = []
fields_tokens (field ∷ fields) = token.key field.0 ∷ (json_tokens field.1 ++ fields_tokens fields)

-- the tokens of a scalar
abbrev pub element_tokens : ScalarData → List Token
element_tokens s = json_tokens (scalar_json s)

-- these tokens were put after those that were there
abbrev pub PutsTokens : {E : Type 0} → Result (Unit {0}) E → Written → Written → List Token → Type 0
PutsTokens r old new tokens = OnOk r ((new.before ≡ old.before) × (new.tokens ≡ old.tokens ++ tokens))
