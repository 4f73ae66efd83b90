-- One step of a product within one store, which grows while it is made.
use Rattle.std.proofs.Common.{◌≡◌, ℕ, ◌+◌, ◌<◌, List, Some, length, arith}
use Rattle.std.specs.Prelude.{slice_get}
use Rattle.indexmap.specs.IndexMap.{IndexMap, Updates}
use Rattle.pq_store.specs.declared.test.Test.{Test}
use Rattle.pq_store.specs.Tree.{Tree}
use Rattle.pq_store.specs.Tree.Tree.{Tip}
use Rattle.pq_store.specs.Store.{JoinsAt, Keeps}
use Rattle.pq_apply.specs.Memo.{Remembers, same_pair}
use Rattle.pq_apply.specs.Pairing.{IsPairedAt}
use Rattle.pq_apply.specs.Product.{FitTogetherAt, IsProduct}
use Rattle.pq_apply.proofs.Kept.{tree_before}
use Rattle.pq_apply.proofs.Pairs.{IsStage, paired_leaves, paired_node, paired_there}
use Rattle.pq_apply.proofs.Places.{no_small, sides_still, size_at, size_still, together}
use Rattle.pq_apply.proofs.Remembered.{pair_exact, remembers_more, remembers_still}

module _ {L : Type 0} where
  -- trees that may come together may still do so
  pub fit_still : (ts vs : List (Tree L)) (x y : ℕ) → Keeps ts vs → x < length ts → y < length ts → FitTogetherAt ts x ts y → FitTogetherAt vs x vs y
  fit_still ts vs x y keeps x_within y_within fit t u t_is u_is =
      fit t u (tree_before ts vs x t keeps x_within t_is) (tree_before ts vs y u keeps y_within u_is)

  -- two nodes of the store stay split by the first of their tests
  pub stage_still : {ts vs : List (Tree L)} {x y : ℕ} {s : Test} {xy xn yy yn : ℕ} → Keeps ts vs → IsStage ts x ts y s xy xn yy yn
      → IsStage vs x vs y s xy xn yy yn
  stage_still {x = x} {y = y} keeps st = record {
    first = record {
      left = st.first.left;
      right = st.first.right;
      left_is = keeps x st.first.left st.first.left_is;
      right_is = keeps y st.first.right st.first.right_is;
      lawful = st.first.lawful;
      leads_left = st.first.leads_left;
      leads_right = st.first.leads_right;
      root = st.first.root;
    };
    left = sides_still keeps st.left;
    right = sides_still keeps st.right;
  }

  -- the no sides together are smaller, also in a store that has grown
  pub no_falls_still : {ts : List (Tree L)} {x y : ℕ} {s : Test} {xy xn yy yn : ℕ} (vs : List (Tree L)) → Keeps ts vs → IsStage ts x ts y s xy xn yy yn
      → size_at vs xn + size_at vs yn < size_at ts x + size_at ts y
  no_falls_still {ts} {x} {y} {s} {xy} {xn} {yy} {yn} vs keeps st =
      let left = st.left in
      let right = st.right in
      let falls = (together (no_small x st.first.left_is left) (no_small y st.first.right_is right)).smaller st.first.root in
      omega (
        arith,
        falls,
        size_still ts vs xn left.no left.no_is (keeps xn left.no left.no_is),
        size_still ts vs yn right.no right.no_is (keeps yn right.no right.no_is),
      )

module _ {L : Type 0} (R : L → L → L → Type 0) where
  -- what is made of two trees stays while the store grows
  pub combined_still : {us vs : List (Tree L)} {x y k : ℕ} → Keeps us vs → IsPairedAt R us x us y us k → IsPairedAt R vs x vs y vs k
  combined_still {x = x} {y = y} {k = k} keeps made = record {
    left = made.left;
    right = made.right;
    paired = made.paired;
    left_is = keeps x made.left made.left_is;
    right_is = keeps y made.right made.right_is;
    is = keeps k made.paired made.is;
    pairs = made.pairs;
  }

  -- a table remembers one more, while the store grows
  pub remembers_combined : {S : Type 0} {us vs : List (Tree L)} {x y k : ℕ} (done new : IndexMap (ℕ × ℕ) ℕ S)
      → Keeps us vs → Remembers same_pair (λ key id. IsPairedAt R us key.0 us key.1 us id) done → IsPairedAt R vs x vs y vs k
      → Updates same_pair done new (x, y) (Some k)
      → Remembers same_pair (λ key id. IsPairedAt R vs key.0 vs key.1 vs id) new
  remembers_combined {us = us} {vs = vs} {x = x} {y = y} {k = k} done new keeps remembers made updates =
      remembers_more same_pair (λ key id. IsPairedAt R vs key.0 vs key.1 vs id) done new (x, y) k pair_exact
      (remembers_still same_pair (λ key id. IsPairedAt R us key.0 us key.1 us id) (λ key id. IsPairedAt R vs key.0 vs key.1 vs id) done
      (λ key id. combined_still keeps) remembers) made updates

  -- what is made of two leaves of the store before it grew
  pub combined_leaves : {vs : List (Tree L)} {x y k : ℕ} {a b c : L} (us : List (Tree L)) → Keeps us vs
      → slice_get us x ≡ Some (Tip a) → slice_get us y ≡ Some (Tip b) → slice_get vs k ≡ Some (Tip c) → R a b c → IsPairedAt R vs x vs y vs k
  combined_leaves {x = x} {y = y} {a = a} {b = b} us keeps a_is b_is c_is made = paired_leaves R (keeps x (Tip a) a_is) (keeps y (Tip b) b_is) c_is made

  -- the node with what is made of the sides of two trees is made of the trees, in a store that has grown by it
  pub combined_node : {ts : List (Tree L)} (vs : List (Tree L)) {x y : ℕ} {s : Test} {xy xn yy yn : ℕ} → IsStage ts x ts y s xy xn yy yn
      → {i j k : ℕ} → FitTogetherAt ts x ts y
      → IsPairedAt R ts xy ts yy ts i → IsPairedAt R ts xn ts yn ts j → Keeps ts vs → JoinsAt ts s i j vs k → IsPairedAt R vs x vs y vs k
  combined_node {ts} vs {x} {y} st {k = k} fit yes_made no_made keeps joins =
      let made = paired_node R st fit yes_made no_made vs k joins in
      record {
        left = made.left;
        right = made.right;
        paired = made.paired;
        left_is = keeps x made.left made.left_is;
        right_is = keeps y made.right made.right_is;
        is = made.is;
        pairs = made.pairs;
      }

  -- what is made in a store that has grown is the product of the trees before
  pub combined_product : {old new : List (Tree L)} {x y k : ℕ} → Keeps old new → IsPairedAt R new x new y new k → IsProduct R old x old y new k
  combined_product {x = x} {y = y} keeps made = record {
    product = made.paired;
    is = made.is;
    gives = λ t u t_is u_is. (paired_there R made (keeps x t t_is) (keeps y u u_is) made.is).gives;
    tests = λ t u t_is u_is. (paired_there R made (keeps x t t_is) (keeps y u u_is) made.is).tests;
  }
