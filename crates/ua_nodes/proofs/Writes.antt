-- What items of a Write leave, one item at a time.
use Rattle.std.proofs.Common.{◌≡◌, Bool, true, false, ◌&&◌, cond, map, List, [], ◌∷◌, Option, None, Some, refl, sym, ◌∙◌, ap, subst, rules}
use Rattle.std.specs.List.{IsDistinct}
use Rattle.std.specs.Map.{keys_of, set_value}
use Rattle.std.specs.Option.{is_none}
use Rattle.std.proofs.lemmas.Map.{NonePasses}
use Rattle.std.specs.List.{AllByRecursion}
use Rattle.std.specs.Bool.{Decides}
use Rattle.ua_builtin.specs.declared.date_time.DateTime.{DateTime}
use Rattle.ua_builtin.specs.declared.node_id.NodeId.{NodeId}
use Rattle.ua_structures.specs.declared.attribute.WriteValue.{WriteValue}
use Rattle.ua_nodes.specs.declared.node.Variable.{Variable}
use Rattle.ua_builtin.specs.Reasons.{first_reason}
use Rattle.ua_nodes.specs.Table.{Nodes, node_at, same_id}
use Rattle.ua_nodes.specs.Write.{write_item_reasons, write_answer, written_by, is_good_for, later, last_good, after_item, after_write, write_answers}

-- the same NodeId is an equal one
pub same_id_is : (a b : NodeId) → Decides (same_id a b) (a ≡ b)
same_id_is a b = search rules

abbrev Node : Type 0
Node = NodeId × Variable

-- the item, where it is good for the node
abbrev good_item : Node → WriteValue → Option WriteValue
good_item node item = cond (is_good_for node item) (Some item) None

abbrev after_one : WriteValue → DateTime → Node → Node
after_one item moment node = (node.0, written_by node.1 (good_item node item) moment)

apart_one : (item : WriteValue) (moment : DateTime) (node : Node) → same_id item.node_id node.0 ≡ false → after_one item moment node ≡ node
apart_one item moment node e =
    ap (λ (t : Bool). (node.0, written_by node.1 (cond (t && is_none (first_reason (write_item_reasons node.1 item))) (Some item) None) moment)) e

head_is : {A : Type 0} {x y : A} {xs ys : List A} → x ≡ y → xs ≡ ys → x ∷ xs ≡ y ∷ ys
head_is p q = λ i. p i ∷ q i

-- an item that names no node leaves all
pub after_none : (item : WriteValue) (moment : DateTime) (nodes : Nodes) → node_at nodes item.node_id ≡ None → after_item item moment nodes ≡ nodes
unfolding after_item
after_none item moment [] h = refl
after_none item moment (node ∷ nodes) h = by (same_id item.node_id node.0) refl h (after_none item moment nodes)
  where
    by : (t : Bool) → same_id item.node_id node.0 ≡ t → cond t (Some node.1) (node_at nodes item.node_id) ≡ None
        → (node_at nodes item.node_id ≡ None → map (after_one item moment) nodes ≡ nodes) → map (after_one item moment) (node ∷ nodes) ≡ node ∷ nodes
    by true e k more = absurd cc
    by false e k more = head_is (apart_one item moment node e) (more k)

after_apart : (item : WriteValue) (moment : DateTime) (nodes : Nodes) → NonePasses (same_id item.node_id) nodes → map (after_one item moment) nodes ≡ nodes
after_apart item moment [] h = refl
after_apart item moment (node ∷ nodes) h = head_is (apart_one item moment node h.0) (after_apart item moment nodes h.1)

among_keys : (id : NodeId) (nodes : Nodes) → AllByRecursion (λ (k : NodeId). same_id id k ≡ false) (keys_of nodes) → NonePasses (same_id id) nodes
among_keys id [] h = tt
among_keys id (node ∷ nodes) h = (h.0, among_keys id nodes h.1)

-- no node behind the one that it names
pub past_head : (id : NodeId) (node : Node) (nodes : Nodes) → IsDistinct same_id (keys_of (node ∷ nodes)) → same_id id node.0 ≡ true
    → NonePasses (same_id id) nodes
unfolding IsDistinct
past_head id node nodes d e =
    let P : NodeId → Type 0 = λ k. NonePasses (same_id k) nodes in
    subst P (sym ((same_id_is id node.0).0 e)) (among_keys node.0 nodes d.0)

-- a node with what an item does to it
abbrev reached : WriteValue → DateTime → Variable → Variable
reached item moment v = written_by v (cond (is_none (first_reason (write_item_reasons v item))) (Some item) None) moment

here_one : (item : WriteValue) (moment : DateTime) (node : Node) → same_id item.node_id node.0 ≡ true
    → after_one item moment node ≡ (node.0, reached item moment node.1)
here_one item moment node e =
    ap (λ (t : Bool). (node.0, written_by node.1 (cond (t && is_none (first_reason (write_item_reasons node.1 item))) (Some item) None) moment)) e

some_same : {x y : Variable} → ◌≡◌ {A = Option Variable} (Some x) (Some y) → x ≡ y
some_same e = cc

-- an item that names a node leaves the others
pub after_some : (item : WriteValue) (moment : DateTime) (nodes : Nodes) (v : Variable) → IsDistinct same_id (keys_of nodes)
    → node_at nodes item.node_id ≡ Some v
    → after_item item moment nodes ≡ set_value (same_id item.node_id) nodes (reached item moment v)
unfolding after_item IsDistinct
after_some item moment [] v d h = absurd cc
after_some item moment (node ∷ nodes) v d h =
    by (same_id item.node_id node.0) refl h (λ e. after_apart item moment nodes (past_head item.node_id node nodes d e)) (after_some item moment nodes v d.1)
  where
    by : (t : Bool) → same_id item.node_id node.0 ≡ t → cond t (Some node.1) (node_at nodes item.node_id) ≡ Some v
        → (same_id item.node_id node.0 ≡ true → map (after_one item moment) nodes ≡ nodes)
        → (node_at nodes item.node_id ≡ Some v → map (after_one item moment) nodes ≡ set_value (same_id item.node_id) nodes (reached item moment v))
        → map (after_one item moment) (node ∷ nodes) ≡ cond t ((node.0, reached item moment v) ∷ nodes)
        (node ∷ set_value (same_id item.node_id) nodes (reached item moment v))
    by true e k apart more = head_is (here_one item moment node e ∙ ap (λ (x : Variable). (node.0, reached item moment x)) (some_same k)) (apart e)
    by false e k apart more = head_is (apart_one item moment node e) (more k)

-- ---- one item, and then the others

same_good : (node : Node) (o : Option WriteValue) (moment : DateTime) (item : WriteValue) → is_good_for (node.0, written_by node.1 o moment) item
    ≡ is_good_for node item
same_good node None moment item = refl
same_good node (Some x) moment item = refl

same_last : (node : Node) (o : Option WriteValue) (moment : DateTime) (items : List WriteValue) → last_good (node.0, written_by node.1 o moment) items
    ≡ last_good node items
same_last node o moment [] = refl
same_last node o moment (item ∷ items) =
    ap (λ (t : Bool). later (cond t (Some item) None) (last_good (node.0, written_by node.1 o moment) items)) (same_good node o moment item)
    ∙ ap (λ (l : Option WriteValue). later (cond (is_good_for node item) (Some item) None) l) (same_last node o moment items)

twice : (v : Variable) (a b : Option WriteValue) (moment : DateTime) → written_by v (later a b) moment ≡ written_by (written_by v a moment) b moment
twice v None None moment = refl
twice v None (Some j) moment = refl
twice v (Some i) None moment = refl
twice v (Some i) (Some j) moment = refl

-- the first item, and then the others
pub after_first : (item : WriteValue) (items : List WriteValue) (moment : DateTime) (nodes : Nodes)
    → after_write (item ∷ items) moment nodes ≡ after_write items moment (after_item item moment nodes)
unfolding after_write after_item
after_first item items moment [] = refl
after_first item items moment (node ∷ nodes) =
    let w = good_item node item in
    let v = written_by node.1 w moment in
    head_is (ap (λ (x : Variable). (node.0, x)) (twice node.1 w (last_good node items) moment
    ∙ ap (λ (l : Option WriteValue). written_by v l moment) (sym (same_last node w moment items))))
    (after_first item items moment nodes)

pub after_nothing : (moment : DateTime) (nodes : Nodes) → after_write [] moment nodes ≡ nodes
unfolding after_write
after_nothing moment [] = refl
after_nothing moment (node ∷ nodes) = head_is refl (after_nothing moment nodes)

-- ---- the answers

same_answer : (v : Variable) (o : Option WriteValue) (moment : DateTime) (item : WriteValue) → write_answer (Some (written_by v o moment)) item
    ≡ write_answer (Some v) item
same_answer v None moment item = refl
same_answer v (Some x) moment item = refl

answer_after : (done : WriteValue) (moment : DateTime) (nodes : Nodes) (item : WriteValue)
    → write_answer (node_at (after_item done moment nodes) item.node_id) item ≡ write_answer (node_at nodes item.node_id) item
unfolding after_item
answer_after done moment [] item = refl
answer_after done moment (node ∷ nodes) item = by (same_id item.node_id node.0) (answer_after done moment nodes item)
  where
    by : (t : Bool) → write_answer (node_at (map (after_one done moment) nodes) item.node_id) item ≡ write_answer (node_at nodes item.node_id) item
        → write_answer (cond t (Some (written_by node.1 (good_item node done) moment)) (node_at (map (after_one done moment) nodes) item.node_id)) item
        ≡ write_answer (cond t (Some node.1) (node_at nodes item.node_id)) item
    by true more = same_answer node.1 (good_item node done) moment item
    by false more = more

-- an item changes no other item's answer
pub answers_after : (done : WriteValue) (moment : DateTime) (nodes : Nodes) (items : List WriteValue) → write_answers (after_item done moment nodes) items
    ≡ write_answers nodes items
answers_after done moment nodes [] = refl
answers_after done moment nodes (item ∷ items) = head_is (answer_after done moment nodes item) (answers_after done moment nodes items)
