-- The lines of answers, as the program prints them.
use Rattle.std.specs.Prelude.{ℕ, Bool, cond, List, [], ◌∷◌, ◌++◌, Option, Some, None, codes}
use Rattle.std.specs.Fmt.{signed_decimal}
use Rattle.std.specs.List.{flat_map}
use Rattle.ua_builtin.specs.NodeText.{node_text}
use Rattle.ua_builtin.specs.declared.date_time.DateTime.{DateTime}
use Rattle.ua_builtin.specs.declared.node_id.NodeId.{NodeId}
use Rattle.ua_builtin.specs.declared.status_code.StatusCode.{StatusCode}
use Rattle.ua_structures.specs.declared.discovery.EndpointDescription.{EndpointDescription}
use Rattle.ua_structures.specs.declared.discovery.UserTokenPolicy.{UserTokenPolicy}
use Rattle.ua_variant.specs.Data.{VariantData}
use Rattle.ua_variant.specs.declared.values.DataValue.{DataValue}
use Rattle.ua_answers.specs.Json.{endpoint_json, json_line, read_json, write_json}
use Rattle.ua_texts.specs.Names.{named_code, number_of}
use Rattle.ua_texts.specs.Shown.{shown_string}
use Rattle.ua_texts.specs.Values.{variant_text}
use Rattle.ua_answers.specs.declared.style.EndpointStyle.{EndpointStyle}
use Rattle.ua_answers.specs.declared.style.LineStyle.{LineStyle}

-- a value after a space, if there is one
abbrev pub value_part : Option VariantData → List ℕ
value_part None = []
value_part (Some v) = codes " " ++ variant_text v

-- a NodeId and a status, with its name if names are wanted
abbrev pub status_text : Bool → NodeId → ℕ → List ℕ
status_text names node code = node_text node ++ (codes " " ++ named_code names code)

-- a timestamp, by its ticks, or `none`
abbrev pub ticks_text : Option DateTime → List ℕ
ticks_text None = codes "none"
ticks_text (Some moment) = signed_decimal moment.ticks

-- the timestamps of an answer, the source's and the server's
abbrev pub times_text : DataValue → List ℕ
times_text answer = codes " source " ++ (ticks_text answer.source_timestamp ++ (codes " server " ++ ticks_text answer.server_timestamp))

-- the timestamps, if they are wanted
abbrev pub times_part : Bool → DataValue → List ℕ
times_part times answer = cond times (times_text answer) []

-- the answer to an item of a Read: NODE CODE TYPE VALUE, or NODE CODE if there is no value; if
-- names are wanted, NAME after CODE; if timestamps are wanted, `source TICKS server TICKS` at the
-- end
unfoldable pub plain_read : LineStyle → NodeId → DataValue → List ℕ
plain_read style node answer =
    status_text style.names node (number_of answer.status) ++ (value_part answer.value ++ (times_part style.times answer ++ codes "\n"))

-- the same as an object of JSON, if this is wanted
unfoldable pub read_line : LineStyle → NodeId → DataValue → List ℕ
read_line style node answer = cond style.json (json_line (read_json style node answer)) (plain_read style node answer)

-- the answer to an item of a Write: NODE CODE, or if names are wanted NODE CODE NAME
unfoldable pub plain_write : LineStyle → NodeId → StatusCode → List ℕ
plain_write style node status = status_text style.names node status.code ++ codes "\n"

-- the same as an object of JSON, if this is wanted
unfoldable pub write_line : LineStyle → NodeId → StatusCode → List ℕ
write_line style node status = cond style.json (json_line (write_json style node status)) (plain_write style node status)

-- a token policy: `  policy ID TYPE`, the type by its number
unfoldable pub policy_line : UserTokenPolicy → List ℕ
policy_line p = codes "  policy " ++ (shown_string p.policy_id ++ ((codes " " ++ signed_decimal p.token_type) ++ codes "\n"))

-- the token policies of an endpoint, each on a line, if they are wanted; none if there is no list
abbrev pub policies_part : Bool → Option (List UserTokenPolicy) → List ℕ
policies_part wanted None = []
policies_part wanted (Some policies) = cond wanted (flat_map policy_line policies) []

-- the address of a server and its security: URL MODE POLICY, the mode by its number
unfoldable pub address_line : EndpointDescription → List ℕ
address_line e = shown_string e.endpoint_url
    ++ ((codes " " ++ (signed_decimal e.security_mode ++ codes " ")) ++ (shown_string e.security_policy_uri ++ codes "\n"))

-- an endpoint: its address, followed by its token policies if they are wanted
unfoldable pub plain_endpoint : EndpointStyle → EndpointDescription → List ℕ
plain_endpoint style e = address_line e ++ policies_part style.policies e.user_identity_tokens

-- the same as an object of JSON, if this is wanted
unfoldable pub endpoint_line : EndpointStyle → EndpointDescription → List ℕ
endpoint_line style e = cond style.json (json_line (endpoint_json style e)) (plain_endpoint style e)

-- ---- several answers

-- the texts of pairs, one of each list, up to the end of the shorter list
abbrev pub pairs_text : {A B : Type 0} → (A → B → List ℕ) → List A → List B → List ℕ
pairs_text f [] ys = []
pairs_text f (x ∷ xs) [] = []
pairs_text f (x ∷ xs) (y ∷ ys) = f x y ++ pairs_text f xs ys

-- the answers to the items of a Read of these nodes
abbrev pub read_lines : LineStyle → List NodeId → List DataValue → List ℕ
read_lines style nodes answers = pairs_text (read_line style) nodes answers

-- the answers to the items of a Write to these nodes
abbrev pub write_lines : LineStyle → List NodeId → List StatusCode → List ℕ
write_lines style nodes answers = pairs_text (write_line style) nodes answers
