-- A Write of what is kept of items, against a Write of the items themselves.
use Rattle.std.proofs.Common.{◌≡◌, ℕ, Bool, true, false, not, ◌&&◌, ◌||◌, cond, nat_eq, map, List, [], ◌∷◌, Option, None, Some, refl, sym, ◌∙◌, ap}
use Rattle.std.specs.List.{AllByRecursion, IsDistinct}
use Rattle.std.specs.Map.{keys_of}
use Rattle.std.specs.Option.{is_none}
use Rattle.ua_builtin.specs.Reasons.{first_reason}
use Rattle.ua_builtin.specs.declared.date_time.DateTime.{DateTime}
use Rattle.ua_builtin.specs.declared.node_id.NodeId.{NodeId}
use Rattle.ua_builtin.specs.declared.status_code.StatusCode.{StatusCode}
use Rattle.ua_variant.specs.Data.{VariantData, null, one, absent, many}
use Rattle.ua_variant.specs.Encodable.{data_value_encodable}
use Rattle.ua_variant.specs.View.{data_value_of}
use Rattle.ua_variant.specs.declared.values.DataValue.{DataValue}
use Rattle.ua_structures.specs.Thin.{is_kept, kept_value, kept_with, null_value, thinned, type_of}
use Rattle.ua_structures.specs.declared.attribute.WriteValue.{WriteValue}
use Rattle.ua_structures.specs.declared.thin.ValueType.{ValueType}
use Rattle.ua_nodes.specs.declared.node.Variable.{Variable}
use Rattle.ua_nodes.specs.Attribute.{is_attribute}
use Rattle.ua_nodes.specs.Read.{is_filled_text}
use Rattle.ua_nodes.specs.Status.{bad_attribute_id_invalid, bad_not_writable, bad_write_not_supported, bad_type_mismatch}
use Rattle.ua_nodes.specs.Table.{Nodes, node_at, same_id}
use Rattle.ua_nodes.specs.Write.{after_write, good_or, has_none, holds_type, is_good_for, is_of_type, last_good, later}
use Rattle.ua_nodes.specs.Write.{nodes_take, variable_takes, write_answer, write_answers, write_item_reasons, written_by}
use Rattle.ua_nodes.proofs.Writes.{same_id_is}

-- ---- a value

both_false : (a b c : Bool) → (a && b) ≡ false → (a && (b && c)) ≡ false
both_false true true c e = absurd cc
both_false true false c e = refl
both_false false b c e = refl

-- a value that is not kept is not one of the node's type
not_of_type : (v : Variable) (value : VariantData) → is_kept (variable_takes (Some v)) (type_of value) ≡ false → is_of_type v.kind v.array value ≡ false
not_of_type v null e = absurd cc
not_of_type v (one s) e = e
not_of_type v (absent k ds) e = both_false v.array (nat_eq k v.kind) (has_none ds) e
not_of_type v (many k ss ds) e = both_false v.array (nat_eq k v.kind) (has_none ds) e

-- ---- an item

-- why an item for this node is refused, by its fields: whether it holds no value, and whether its value has the type of the node and can be written
abbrev reasons : Variable → ℕ → Option (List ℕ) → Bool → Bool → List (StatusCode × Bool)
reasons v attribute range none fits =
    (bad_attribute_id_invalid, not (is_attribute attribute))
    ∷ (bad_not_writable, not (nat_eq attribute 13 && v.access.writable))
    ∷ (bad_write_not_supported, is_filled_text range || none)
    ∷ (bad_type_mismatch, not fits)
    ∷ []

-- the same where it holds this, which can be written or not
abbrev reasons_at : Variable → ℕ → Option (List ℕ) → Bool → Option VariantData → List (StatusCode × Bool)
reasons_at v attribute range writable held = reasons v attribute range (is_none held) (holds_type v.kind v.array held && writable)

-- the same of a DataValue
abbrev reasons_of : Variable → ℕ → Option (List ℕ) → DataValue → List (StatusCode × Bool)
reasons_of v attribute range d = reasons_at v attribute range (data_value_encodable (data_value_of d)) d.value

kept_by : (v : Variable) (attribute : ℕ) (range : Option (List ℕ)) (d : DataValue) (value : VariantData) (test : Bool) → d.value ≡ Some value
    → is_kept (variable_takes (Some v)) (type_of value) ≡ test
    → reasons_of v attribute range (cond test d null_value) ≡ reasons_of v attribute range d
kept_by v attribute range d value true held is = refl
kept_by v attribute range d value false held is =
    let writable = data_value_encodable (data_value_of d) in
    sym (ap (reasons_at v attribute range writable) held
    ∙ ap (λ (b : Bool). reasons v attribute range false (b && writable)) (not_of_type v value is))

reasons_kept : (v : Variable) (attribute : ℕ) (range : Option (List ℕ)) (d : DataValue) (held : Option VariantData) → d.value ≡ held
    → reasons_of v attribute range (kept_with (variable_takes (Some v)) held d) ≡ reasons_of v attribute range d
reasons_kept v attribute range d None is = refl
reasons_kept v attribute range d (Some value) is = kept_by v attribute range d value (is_kept (variable_takes (Some v)) (type_of value)) is refl

-- the item with this value
abbrev with_value : WriteValue → DataValue → WriteValue
with_value item d = record { node_id = item.node_id; attribute_id = item.attribute_id; index_range = item.index_range; value = d }

-- the item with what is kept of its value where these types are taken
abbrev with_kept : (ValueType → Bool) → WriteValue → WriteValue
with_kept takes item = with_value item (kept_value takes item.value)

pub same_reasons : (v : Variable) (item : WriteValue) (takes : ValueType → Bool) → takes ≡ variable_takes (Some v)
    → write_item_reasons v (with_kept takes item) ≡ write_item_reasons v item
same_reasons v item takes is =
    ap (λ (t : ValueType → Bool). write_item_reasons v (with_kept t item)) is
    ∙ reasons_kept v item.attribute_id item.index_range item.value item.value.value refl

-- an item that is not refused is kept as it is
abbrev refusals : Bool → Bool → Bool → List (StatusCode × Bool)
refusals a b c = (bad_attribute_id_invalid, a) ∷ (bad_not_writable, b) ∷ (bad_write_not_supported, c) ∷ (bad_type_mismatch, true) ∷ []

one_holds : (a b c : Bool) → is_none (first_reason (refusals a b c)) ≡ true → ⊥
one_holds true b c e = absurd cc
one_holds false true c e = absurd cc
one_holds false false true e = absurd cc
one_holds false false false e = absurd cc

good_by : (v : Variable) (attribute : ℕ) (range : Option (List ℕ)) (d : DataValue) (value : VariantData) (test : Bool) → d.value ≡ Some value
    → is_kept (variable_takes (Some v)) (type_of value) ≡ test
    → is_none (first_reason (reasons_of v attribute range d)) ≡ true → cond test d null_value ≡ d
good_by v attribute range d value true held is good = refl
good_by v attribute range d value false held is good =
    absurd (one_holds (not (is_attribute attribute)) (not (nat_eq attribute 13 && v.access.writable)) (is_filled_text range || false)
    (ap (λ (rs : List (StatusCode × Bool)). is_none (first_reason rs)) (kept_by v attribute range d value false held is) ∙ good))

good_kept : (v : Variable) (attribute : ℕ) (range : Option (List ℕ)) (d : DataValue) (held : Option VariantData) → d.value ≡ held
    → is_none (first_reason (reasons_of v attribute range d)) ≡ true → kept_with (variable_takes (Some v)) held d ≡ d
good_kept v attribute range d None is good = refl
good_kept v attribute range d (Some value) is good = good_by v attribute range d value (is_kept (variable_takes (Some v)) (type_of value)) is refl good

pub same_item : (v : Variable) (item : WriteValue) (takes : ValueType → Bool) → takes ≡ variable_takes (Some v)
    → is_none (first_reason (write_item_reasons v item)) ≡ true → with_kept takes item ≡ item
same_item v item takes is good =
    ap (λ (t : ValueType → Bool). with_kept t item) is
    ∙ ap (with_value item) (good_kept v item.attribute_id item.index_range item.value item.value.value refl good)

-- ---- the answers

pub answer_by : (takes : NodeId → ValueType → Bool) (o : Option Variable) (item : WriteValue) → takes item.node_id ≡ variable_takes o
    → write_answer o (thinned takes item) ≡ write_answer o item
answer_by takes None item is = refl
answer_by takes (Some v) item is = ap (λ (rs : List (StatusCode × Bool)). good_or (first_reason rs)) (same_reasons v item (takes item.node_id) is)

head_is : {A : Type 0} {x y : A} {xs ys : List A} → x ≡ y → xs ≡ ys → x ∷ xs ≡ y ∷ ys
head_is p q = λ i. p i ∷ q i

pub write_answers-thinned : (nodes : Nodes) (items : List WriteValue) → write_answers nodes (map (thinned (nodes_take nodes)) items) ≡ write_answers nodes items
write_answers-thinned nodes [] = refl
write_answers-thinned nodes (item ∷ items) = head_is (answer_by (nodes_take nodes) (node_at nodes item.node_id) item refl) (write_answers-thinned nodes items)

-- ---- the nodes

-- where an item names the node, the types that are taken are those of the node
abbrev Names : (NodeId → ValueType → Bool) → NodeId × Variable → Type 0
Names takes node = (id : NodeId) → same_id id node.0 ≡ true → takes id ≡ variable_takes (Some node.1)

same_kept : (good : Bool) (kept item : WriteValue) → (good ≡ true → kept ≡ item) → cond good (Some kept) None ≡ cond good (Some item) None
same_kept true kept item same = ap Some (same refl)
same_kept false kept item same = refl

good_item : (takes : NodeId → ValueType → Bool) (node : NodeId × Variable) (item : WriteValue) (test : Bool) → Names takes node
    → same_id item.node_id node.0 ≡ test
    → cond (test && is_none (first_reason (write_item_reasons node.1 (thinned takes item)))) (Some (thinned takes item)) None
    ≡ cond (test && is_none (first_reason (write_item_reasons node.1 item))) (Some item) None
good_item takes node item true names is =
    let taken = names item.node_id is in
    ap (λ (rs : List (StatusCode × Bool)). cond (is_none (first_reason rs)) (Some (thinned takes item)) None)
    (same_reasons node.1 item (takes item.node_id) taken)
    ∙ same_kept (is_none (first_reason (write_item_reasons node.1 item))) (thinned takes item) item (same_item node.1 item (takes item.node_id) taken)
good_item takes node item false names is = refl

last_same : (takes : NodeId → ValueType → Bool) (node : NodeId × Variable) (items : List WriteValue) → Names takes node
    → last_good node (map (thinned takes) items) ≡ last_good node items
last_same takes node [] names = refl
last_same takes node (item ∷ items) names =
    ap (λ (g : Option WriteValue). later g (last_good node (map (thinned takes) items))) (good_item takes node item (same_id item.node_id node.0) names refl)
    ∙ ap (λ (l : Option WriteValue). later (cond (is_good_for node item) (Some item) None) l) (last_same takes node items names)

-- a node as this item leaves it
abbrev node_left : DateTime → NodeId × Variable → Option WriteValue → NodeId × Variable
node_left moment node item = (node.0, written_by node.1 item moment)

after_each : (takes : NodeId → ValueType → Bool) (items : List WriteValue) (moment : DateTime) (nodes : Nodes) → AllByRecursion (Names takes) nodes
    → map (λ node. node_left moment node (last_good node (map (thinned takes) items))) nodes ≡ map (λ node. node_left moment node (last_good node items)) nodes
after_each takes items moment [] names = refl
after_each takes items moment (node ∷ nodes) names = head_is (ap (node_left moment node) (last_same takes node items names.0))
    (after_each takes items moment nodes names.1)

-- ---- no two nodes are of one NodeId

apart : (a b id : NodeId) (test : Bool) → same_id a b ≡ false → same_id id b ≡ true → same_id id a ≡ test → test ≡ false
apart a b id true differ is same =
    let one : id ≡ a = (same_id_is id a).0 same in
    let other : id ≡ b = (same_id_is id b).0 is in
    let no : true ≡ false = sym ((same_id_is a b).1 (sym one ∙ other)) ∙ differ in
    absurd cc
apart a b id false differ is same = refl

-- a node more in front leaves what the others are named by
named_behind : (node : NodeId × Variable) (all nodes : Nodes) → AllByRecursion (λ (k : NodeId). same_id node.0 k ≡ false) (keys_of nodes)
    → AllByRecursion (Names (nodes_take all)) nodes
    → AllByRecursion (Names (nodes_take (node ∷ all))) nodes
named_behind node all [] differ names = tt
named_behind node all (x ∷ nodes) differ names = (
  (λ id is. ap (λ (b : Bool). variable_takes (cond b (Some node.1) (node_at all id))) (apart node.0 x.0 id (same_id id node.0) differ.0 is refl)
      ∙ names.0 id is),
  named_behind node all nodes differ.1 names.1,
)

each_named : (nodes : Nodes) → IsDistinct same_id (keys_of nodes) → AllByRecursion (Names (nodes_take nodes)) nodes
unfolding IsDistinct
each_named [] distinct = tt
each_named (node ∷ nodes) distinct = (
  (λ id is. ap (λ (b : Bool). variable_takes (cond b (Some node.1) (node_at nodes id))) is),
  named_behind node nodes nodes distinct.0 (each_named nodes distinct.1),
)

pub after_write-thinned : (nodes : Nodes) → IsDistinct same_id (keys_of nodes) → (items : List WriteValue) (moment : DateTime)
    → after_write (map (thinned (nodes_take nodes)) items) moment nodes ≡ after_write items moment nodes
unfolding after_write
after_write-thinned nodes distinct items moment = after_each (nodes_take nodes) items moment nodes (each_named nodes distinct)
