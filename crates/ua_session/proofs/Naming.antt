-- What words name.
use Rattle.std.proofs.Common.{ℕ, ◌+◌, ◌<◌, List, [], ◌∷◌, ◌++◌, length, get_or, take, Err, refl, sym, subst}
use Rattle.std.proofs.lemmas.List.{get_or_default, take_more}
use Rattle.std.proofs.lemmas.Slice.Zip.{all_zipped_more}
use Rattle.std.specs.Prelude.{IsErrOf}
use Rattle.ua_builtin.specs.NodeText.{NamesNode}
use Rattle.ua_builtin.specs.declared.fault.TextFault.{TextFault}
use Rattle.ua_builtin.specs.declared.fault.TextFault.TheVariants as text
use Rattle.ua_builtin.specs.declared.node_id.NodeId.{NodeId}
use Rattle.ua_session.specs.Told.{of_text}
use Rattle.ua_session.specs.Words.{AreNodes, GivesIdOfWord, NamesNoNodes}
use Rattle.ua_session.specs.declared.fault.WordFault.{WordFault}
use Rattle.ua_session.specs.declared.fault.WordFault.TheVariants as word

-- ---- one word

pub word_refused : (t : List ℕ) (fault : TextFault) → (IsErrOf {T = NodeId} (Err fault) text.NotNodeId → (v : NodeId) → ¬ (NamesNode v t))
    → GivesIdOfWord t (Err (of_text fault))
word_refused t text.NotNodeId h = λ node names. h refl node names
word_refused t text.OutOfMemory h = tt

-- ---- several words

-- one word more
pub nodes_more : {A : Type 0} (text_of : A → List ℕ) (texts : List A) (nodes : List NodeId) (i : ℕ) (d : A) (node : NodeId) → i < length texts
    → AreNodes text_of (take i texts) nodes
    → NamesNode node (text_of (get_or texts i d)) → AreNodes text_of (take (i + 1) texts) (nodes ++ node ∷ [])
nodes_more text_of texts nodes i d node within all names =
    subst (λ t. AreNodes text_of t (nodes ++ node ∷ [])) (sym (take_more texts i d within))
    (all_zipped_more (λ text node. NamesNode node (text_of text)) (take i texts) nodes (get_or texts i d) node all names)

-- a word that names none
pub nodes_refused : {A : Type 0} (text_of : A → List ℕ) (texts : List A) (i : ℕ) (d : A) (fault : WordFault) → i < length texts
    → GivesIdOfWord (text_of (get_or texts i d)) (Err fault) → NamesNoNodes text_of texts fault
nodes_refused text_of texts i d word.BadNode within none = (i, get_or texts i d, within, get_or_default texts i (get_or texts i d) d within, none)
nodes_refused text_of texts i d word.BadValue within none = none
nodes_refused text_of texts i d word.BadRange within none = none
nodes_refused text_of texts i d word.NoMemory within none = tt
