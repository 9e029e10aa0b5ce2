-- What `ua read` and `ua write` print of a server: the lines of what its nodes give (OPC 10000-4,
-- 5.11.2 and 5.11.4).
use Rattle.std.specs.Prelude.{◌≡◌, ℕ, ◌-◌, List, [], ◌∷◌, map, Option}
use Rattle.ua_builtin.specs.declared.date_time.DateTime.{DateTime}
use Rattle.ua_builtin.specs.declared.node_id.NodeId.{NodeId}
use Rattle.ua_variant.specs.declared.values.DataValue.{DataValue}
use Rattle.ua_services.specs.SessionRequests.{attribute_of_node}
use Rattle.ua_nodes.specs.Limit.{limited_answers}
use Rattle.ua_nodes.specs.Read.{read_answer}
use Rattle.ua_nodes.specs.Table.{Nodes, node_at}
use Rattle.ua_nodes.specs.declared.stamps.Stamps.TheVariants.{Both}
use Rattle.ua_server.specs.Attributes.{value_from}
use Rattle.ua_server.specs.State.{State}
use Rattle.ua_loopback.specs.Beginning.{Beginning}
use Rattle.ua_answers.specs.Answers.{write_lines}
use Rattle.ua_answers.specs.PlainAnswers.{AreReads}
use Rattle.ua_answers.specs.declared.style.AnswerStyle.{AnswerStyle}
use Rattle.ua_session.specs.Question.{item_for}
use Rattle.ua_session.specs.Session.{first_call}
use Rattle.ua_session.specs.declared.policy.TokenPolicy.{TokenPolicy}
use Rattle.ua_session.specs.declared.question.Question.{Question}
use Rattle.ua_session.specs.declared.question.Question.TheVariants.{Read, Write}

-- the DataValue that nodes give at this time for an attribute of the node that a NodeId names, or
-- for the part of it that an index range selects: that of `NodeTable::read_item`, with both
-- timestamps
abbrev pub attribute_given : Nodes → ℕ → Option (List ℕ) → DateTime → NodeId → DataValue
attribute_given nodes attribute part moment id = value_from (read_answer (node_at nodes id) (attribute_of_node id attribute part) Both moment)

-- a text has the lines of what services in this state give at this time to a question: of a Read
-- those of the DataValues of its nodes, each after its own NodeId; of a Write that of the StatusCode
-- of its item
abbrev pub AreLinesGiven : AnswerStyle → Question → State → DateTime → List ℕ → Type 0
AreLinesGiven style (Read ids attribute part) s moment text = AreReads style ids.items (map (attribute_given s.nodes attribute part moment) ids.items) text
AreLinesGiven style (Write id value) s moment text =
    text ≡ write_lines style.lines (id ∷ []) (limited_answers s.memory_limit s.nodes (item_for id value ∷ []))

-- the time of a server's answer to a question that is asked by a token policy: each RequestId had
-- one answer that carries a time, and the answer to the first OPN, whose RequestId is 1, has the
-- number 0
abbrev pub time_of_answer : Beginning → TokenPolicy → DateTime
time_of_answer b policy = b.moments (first_call policy - 1)
