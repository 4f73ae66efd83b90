-- The parts of a statement, by the terms that stand for them.
use Rattle.std.specs.Prelude.{◌≡◌, ℕ, ◌<◌, ◌≤◌, List, [], ◌∷◌, map, length, get_or}
use Rattle.std.proofs.Common.{arith, refl, ap}
use Rattle.pq_term.specs.declared.name.Name.{Name}
use Rattle.pq_term.specs.declared.token.Token.{Token}
use Rattle.pq_tree.specs.declared.term.Term.{Term}
use Rattle.pq_tree.specs.declared.term.Term.TheViews.{out-Term}
use Rattle.pq_tree.specs.Texts.{text_in}
use Rattle.pq_tree.specs.Trees.{Tree, tree, trees}
use Rattle.pq_tree.proofs.Folds.{tree_out}
use Rattle.pq_topo.specs.declared.fault.NameKind.{NameKind}
use Rattle.pq_topo.specs.declared.fault.NameKind.TheVariants.{BadValue}
use Rattle.pq_topo.specs.Naming.{Reading, faulty}
use Rattle.pq_pred.specs.Values.{name_in}
use Rattle.pq_policy.specs.declared.policy.Policy.{Policy}
use Rattle.pq_query.specs.declared.query.Query.{Query}
use Rattle.pq_compile.specs.Documents.{DocumentTree, named_query_tree, part_tree}
use Rattle.pq_compile.specs.Lawful.{names_in}
use Rattle.pq_edit.specs.Reading.{put_of, put_under, removal_at, removal_of, removed_name, removed_of}

-- plain data has the same names
pub part_names : (ps : List (Name × Policy)) → map (λ p. p.0) ps ≡ names_in (map part_tree ps)
part_names [] = refl
part_names (p ∷ ps) = ap (λ names. p.0 ∷ names) (part_names ps)

pub query_names : (qs : List (Name × Query)) → map (λ q. q.0) qs ≡ names_in (map named_query_tree qs)
query_names [] = refl
query_names (q ∷ qs) = ap (λ names. q.0 ∷ names) (query_names qs)

-- two children are a name and a body
pub put_two : {A : Type 0} (bytes : List ℕ) (most : ℕ) (read : Tree → Reading A) (names : List (List ℕ)) (keyword : Token) (ts : List Term)
    (d : Term) → 2 ≤ length ts
    → put_of bytes most read names keyword (trees ts) ≡ put_under most read names keyword (out-Term (get_or ts 0 d)).head
    (tree (get_or ts 1 d)) (name_in (text_in bytes (out-Term (get_or ts 0 d)).head))
put_two bytes most read names keyword [] d long = absurd (omega (arith, long))
put_two bytes most read names keyword (x ∷ []) d long = absurd (omega (arith, long))
put_two bytes most read names keyword (x ∷ y ∷ zs) d long =
    ap (λ (t : Tree). put_under most read names keyword t.head (tree y) (name_in (text_in bytes t.head))) (tree_out x)

-- fewer children are none
pub put_few : {A : Type 0} (bytes : List ℕ) (most : ℕ) (read : Tree → Reading A) (names : List (List ℕ)) (keyword : Token) (ts : List Term) → length ts < 2
    → put_of bytes most read names keyword (trees ts) ≡ faulty keyword BadValue
put_few bytes most read names keyword [] short = refl
put_few bytes most read names keyword (x ∷ []) short = refl
put_few bytes most read names keyword (x ∷ y ∷ zs) short = absurd (omega (arith, short))

-- the first child is the name of what is removed
pub removed_one : (bytes : List ℕ) (kind : NameKind) (names : List (List ℕ)) (keyword : Token) (ts : List Term) (d : Term) → 1 ≤ length ts
    → removed_of bytes kind names keyword (trees ts) ≡ removed_name kind names (out-Term (get_or ts 0 d)).head
    (name_in (text_in bytes (out-Term (get_or ts 0 d)).head))
removed_one bytes kind names keyword [] d long = absurd (omega (arith, long))
removed_one bytes kind names keyword (x ∷ xs) d long = ap (λ (t : Tree). removed_name kind names t.head (name_in (text_in bytes t.head))) (tree_out x)

-- the first child is what is removed
pub removal_one : (d : DocumentTree) (bytes : List ℕ) (remove : Token) (ts : List Term) (default : Term) → 1 ≤ length ts
    → removal_of d bytes remove (trees ts) ≡ removal_at d bytes (out-Term (get_or ts 0 default)).head (trees (out-Term (get_or ts 0 default)).children.now)
removal_one d bytes remove [] default long = absurd (omega (arith, long))
removal_one d bytes remove (x ∷ xs) default long = ap (λ (t : Tree). removal_at d bytes t.head t.below) (tree_out x)
