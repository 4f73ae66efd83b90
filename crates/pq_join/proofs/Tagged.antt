-- The trees of classes, tag by tag.
use Rattle.std.proofs.Common.{ℕ, suc, ◌+◌, ◌-◌, ◌≡◌, ◌∙◌, Bool, true, false, not, cond, List, [], ◌∷◌, ◌++◌, map, Option, refl, sym, ap}
use Rattle.std.proofs.Common.{subst, arith, append-nil}
use Rattle.std.proofs.lemmas.List.{map-append}
use Rattle.std.specs.List.{AllZip, filter}
use Rattle.std.proofs.lemmas.List.Elements.{filter-append}
use Rattle.std.proofs.lemmas.Slice.Zip.{all_zipped_more}
use Rattle.pq_lists.proofs.Paired.{zip_weaker}
use Rattle.pq_auto.specs.Machine.{Machine, is_even_at}
use Rattle.pq_layout.specs.Tagging.{up_to}
use Rattle.pq_rewrite.specs.declared.outgoing.Outgoing.{Outgoing}
use Rattle.pq_rewrite.specs.declared.trees.Arrive.{Arrive}
use Rattle.pq_rewrite.specs.declared.trees.Key.{Key}
use Rattle.pq_rewrite.specs.declared.trees.Key.TheVariants.{Plain, Tag}
use Rattle.pq_store.specs.Tree.{Tree}
use Rattle.pq_store.specs.Store.{Keeps}
use Rattle.pq_join.specs.declared.departure.Departure.{Departure}
use Rattle.pq_join.specs.declared.sight.Seen.{Seen}
use Rattle.pq_join.specs.Arriving.{ArrivesByAt, ArrivesTo, MakesAt, arrival_by, arrival_of, even_to}
use Rattle.pq_join.specs.Leaving.{CopiesAt, LeavesTo, copies_at, odd_to}
use Rattle.pq_join.proofs.Mapping.{made_still}

-- Lists item by item.

-- Tags.

-- the tag of a class tells the class
pub class_again : (c : ℕ) → suc c - 1 ≡ c
class_again c = omega arith

-- one more number is kept or not
filter_next : (p : ℕ → Bool) (c : ℕ) → filter p (up_to (c + 1)) ≡ filter p (up_to c) ++ cond (p (suc c)) (suc c ∷ []) []
filter_next p c =
    let next : c + 1 ≡ suc c = omega arith in
    ap (λ n. filter p (up_to n)) next ∙ filter-append p (up_to c) (suc c ∷ [])

filter_taken : (p : ℕ → Bool) (c : ℕ) → p (suc c) ≡ true → filter p (up_to (c + 1)) ≡ filter p (up_to c) ++ suc c ∷ []
filter_taken p c taken = filter_next p c ∙ ap (λ b. filter p (up_to c) ++ cond b (suc c ∷ []) []) taken

filter_left : (p : ℕ → Bool) (c : ℕ) → p (suc c) ≡ false → filter p (up_to (c + 1)) ≡ filter p (up_to c)
filter_left p c left = filter_next p c ∙ (ap (λ b. filter p (up_to c) ++ cond b (suc c ∷ []) []) left ∙ append-nil (filter p (up_to c)))

even_taken : (m : Machine) (c : ℕ) → is_even_at m c ≡ true → even_to m (c + 1) ≡ even_to m c ++ suc c ∷ []
even_taken m c even = filter_taken (λ t. is_even_at m (t - 1)) c (ap (is_even_at m) (class_again c) ∙ even)

even_left : (m : Machine) (c : ℕ) → is_even_at m c ≡ false → even_to m (c + 1) ≡ even_to m c
even_left m c odd = filter_left (λ t. is_even_at m (t - 1)) c (ap (is_even_at m) (class_again c) ∙ odd)

odd_taken : (m : Machine) (c : ℕ) → is_even_at m c ≡ false → odd_to m (c + 1) ≡ odd_to m c ++ suc c ∷ []
odd_taken m c odd = filter_taken (λ t. not (is_even_at m (t - 1))) c (ap (λ n. not (is_even_at m n)) (class_again c) ∙ ap not odd)

odd_left : (m : Machine) (c : ℕ) → is_even_at m c ≡ true → odd_to m (c + 1) ≡ odd_to m c
odd_left m c even = filter_left (λ t. not (is_even_at m (t - 1))) c (ap (λ n. not (is_even_at m n)) (class_again c) ∙ ap not even)

-- The first table.

-- the tree without a tag comes first
pub arrives_first : (m : Machine) (seen : List (Tree Seen)) (root : ℕ) (into : List (Tree (Option Arrive))) (id : ℕ) → ArrivesByAt m 0 false seen root into id
    → ArrivesTo m 0 seen root into ((Plain, id) ∷ [])
arrives_first m seen root into id arrives = ((refl, arrives), tt)

-- trees stay while the store grows
arrives_still : (m : Machine) (keys : List Key) (seen : List (Tree Seen)) (root : ℕ) (old new : List (Tree (Option Arrive)))
    (trees : List (Key × ℕ)) → Keeps old new
    → AllZip (λ k p. (p.0 ≡ k) × MakesAt (arrival_of m k) seen root old p.1) keys trees
    → AllZip (λ k p. (p.0 ≡ k) × MakesAt (arrival_of m k) seen root new p.1) keys trees
arrives_still m keys seen root old new trees keeps zip =
    zip_weaker (λ k p. (p.0 ≡ k) × MakesAt (arrival_of m k) seen root old p.1) (λ k p. (p.0 ≡ k) × MakesAt (arrival_of m k) seen root new p.1)
    (λ k p both. (both.0, made_still (arrival_of m k) seen root old new p.1 keeps both.1)) keys trees zip

-- a class of words of odd length adds none
pub arrives_left : (m : Machine) (c : ℕ) (seen : List (Tree Seen)) (root : ℕ) (into : List (Tree (Option Arrive))) (trees : List (Key × ℕ))
    → is_even_at m c ≡ false
    → ArrivesTo m c seen root into trees → ArrivesTo m (c + 1) seen root into trees
arrives_left m c seen root into trees odd zip =
    subst (λ ts. AllZip (λ k p. (p.0 ≡ k) × MakesAt (arrival_of m k) seen root into p.1) (Plain ∷ map Tag ts) trees) (sym (even_left m c odd)) zip

-- and one of even length its own
pub arrives_taken : (m : Machine) (c : ℕ) (seen : List (Tree Seen)) (root : ℕ) (old new : List (Tree (Option Arrive)))
    (trees more : List (Key × ℕ)) (t id : ℕ) → is_even_at m c ≡ true → Keeps old new
    → t ≡ suc c → more ≡ trees ++ (Tag t, id) ∷ [] → ArrivesTo m c seen root old trees → ArrivesByAt m c true seen root new id
    → ArrivesTo m (c + 1) seen root new more
arrives_taken m c seen root old new trees more t id even keeps tag all zip arrives =
    let R : Key → Key × ℕ → Type 0 = λ k p. (p.0 ≡ k) × MakesAt (arrival_of m k) seen root new p.1 in
    let own = subst (λ n. MakesAt (arrival_by m n true) seen root new id) (sym (class_again c)) arrives in
    let pushed = all_zipped_more R (Plain ∷ map Tag (even_to m c)) trees (Tag (suc c)) (Tag t, id)
    (arrives_still m (Plain ∷ map Tag (even_to m c)) seen root old new trees keeps zip) (ap Tag tag, own) in
    let keys : (Plain ∷ map Tag (even_to m c)) ++ Tag (suc c) ∷ [] ≡ Plain ∷ map Tag (even_to m (c + 1)) =
    ap (λ ks. Plain ∷ ks) (sym (map-append Tag (even_to m c) (suc c ∷ [])) ∙ ap (map Tag) (sym (even_taken m c even))) in
    subst (AllZip R (Plain ∷ map Tag (even_to m (c + 1)))) (sym all) (subst (λ ks. AllZip R ks (trees ++ (Tag t, id) ∷ [])) keys pushed)

-- The second table.

-- a class of words of even length adds none
pub leaves_left : (m : Machine) (c : ℕ) (from : List (Tree (List Departure))) (node : ℕ) (into : List (Tree (List Outgoing)))
    (trees : List (ℕ × ℕ)) → is_even_at m c ≡ true
    → LeavesTo m c from node into trees → LeavesTo m (c + 1) from node into trees
leaves_left m c from node into trees even zip =
    subst (λ ts. AllZip (λ t p. (p.0 ≡ t) × MakesAt (copies_at m (t - 1)) from node into p.1) ts trees) (sym (odd_left m c even)) zip

-- and one of odd length its own
pub leaves_taken : (m : Machine) (c : ℕ) (from : List (Tree (List Departure))) (node : ℕ) (old new : List (Tree (List Outgoing)))
    (trees more : List (ℕ × ℕ)) (t id : ℕ) → is_even_at m c ≡ false
    → Keeps old new → t ≡ suc c → more ≡ trees ++ (t, id) ∷ [] → LeavesTo m c from node old trees → CopiesAt m c from node new id
    → LeavesTo m (c + 1) from node new more
leaves_taken m c from node old new trees more t id odd keeps tag all zip copies =
    let R : ℕ → ℕ × ℕ → Type 0 = λ a p. (p.0 ≡ a) × MakesAt (copies_at m (a - 1)) from node new p.1 in
    let own = subst (λ n. MakesAt (copies_at m n) from node new id) (sym (class_again c)) copies in
    let still = zip_weaker (λ a p. (p.0 ≡ a) × MakesAt (copies_at m (a - 1)) from node old p.1) R
    (λ a p both. (both.0, made_still (copies_at m (a - 1)) from node old new p.1 keeps both.1))
    (odd_to m c) trees zip in
    let pushed = all_zipped_more R (odd_to m c) trees (suc c) (t, id) still (tag, own) in
    subst (AllZip R (odd_to m (c + 1))) (sym all) (subst (λ ts. AllZip R ts (trees ++ (t, id) ∷ [])) (sym (odd_taken m c odd)) pushed)
