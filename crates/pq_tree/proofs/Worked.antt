-- A text whose trees were worked out by hand.
use Rattle.std.proofs.Common.{ℕ, List, [], ◌∷◌, refl, inl, inr, arith}
use Rattle.std.specs.Prelude.{codes}
use Rattle.pq_term.specs.declared.token.Kind.TheVariants.{Word, Symbol}
use Rattle.pq_term.specs.declared.token.Token.{Token}
use Rattle.pq_grammar.specs.declared.class.Class.{Class}
use Rattle.pq_grammar.specs.declared.class.Class.TheVariants.{PartWord, Name, Equals, DropWord, Plus, FloodWord, Semicolon}
use Rattle.pq_grammar.specs.declared.sort.Sort.TheVariants.{Document}
use Rattle.pq_grammar.specs.declared.symbol.Role.TheVariants.{Leaf, Spelled, Head, Lead}
use Rattle.pq_grammar.specs.declared.mark.Lexeme.{Lexeme}
use Rattle.pq_grammar.specs.declared.mark.Mark.{Mark}
use Rattle.pq_grammar.specs.declared.mark.Mark.TheVariants.{Token as TokenMark, Close as CloseMark}
use Rattle.pq_tree.specs.Trees.{Forest, nothing, grown, Tree}
use Rattle.pq_tree.specs.Shapes.{Makes, none, leaf, spelled, head, lead, tree_over}
use Rattle.pq_tree.specs.Reading.{IsForestOf}

-- the text
abbrev text : List ℕ
text = codes "part a = drop + flood;"

-- its tokens
abbrev keyword : Token
keyword = record { kind = Word; at = 0; len = 4 }

abbrev name : Token
name = record { kind = Word; at = 5; len = 1 }

abbrev equals : Token
equals = record { kind = Symbol; at = 7; len = 1 }

abbrev left : Token
left = record { kind = Word; at = 9; len = 4 }

abbrev plus : Token
plus = record { kind = Symbol; at = 14; len = 1 }

abbrev right : Token
right = record { kind = Word; at = 16; len = 5 }

abbrev semicolon : Token
semicolon = record { kind = Symbol; at = 21; len = 1 }

-- its marks
abbrev lexeme : Class → Token → Lexeme
lexeme class token = record { class = class; token = token }

abbrev marks : List Mark
marks = TokenMark Head (lexeme PartWord keyword) 0 ∷ TokenMark Leaf (lexeme Name name) 0 ∷ TokenMark Spelled (lexeme Equals equals) 0 ∷
    TokenMark Leaf (lexeme DropWord left) 0 ∷ TokenMark Lead (lexeme Plus plus) 0 ∷ TokenMark Leaf (lexeme FloodWord right) 0 ∷ CloseMark ∷
    TokenMark Spelled (lexeme Semicolon semicolon) 0 ∷ CloseMark ∷ []

-- the tree of a leaf
abbrev single : Token → Tree
single token = record { head = token; below = nothing }

-- the marks of the sum make its tree: it takes the tree before it as its first child
sum_made : Makes
    (TokenMark Leaf (lexeme Name name) 0 ∷ TokenMark Spelled (lexeme Equals equals) 0 ∷ TokenMark Leaf (lexeme DropWord left) 0 ∷ TokenMark
    Lead (lexeme Plus plus) 0 ∷ TokenMark Leaf (lexeme FloodWord right) 0 ∷ CloseMark ∷ [])
    (single name ∷ tree_over (lexeme Plus plus) (single left ∷ single right ∷ []) ∷ [])
sum_made =
    lead _ _ (single name ∷ []) _ (single left) (lexeme Plus plus) 0
    (leaf _ _ (lexeme DropWord left) 0 (spelled _ _ (lexeme Equals equals) 0 (leaf _ _ (lexeme Name name) 0 none)))
    (leaf _ _ (lexeme FloodWord right) 0 none)

-- its trees: a part with its name and a sum of two
abbrev trees : Forest
trees = grown keyword (grown name nothing (grown plus (grown left nothing (grown right nothing nothing)) nothing)) nothing

-- these are the trees of the text
pub worked : IsForestOf Document text trees
worked = record {
  tokens = keyword ∷ name ∷ equals ∷ left ∷ plus ∷ right ∷ semicolon ∷ [];
  marks = marks;
  divided = (refl, (refl, (refl, (refl, (refl, (refl, (refl, refl)))))));
  sentence = record {
    derived = (
      24,
      (
        _,
        inl refl,
        (
          _,
          inl refl,
          (
            _,
            inl refl,
            (
              _,
              inr (inl refl),
              (
                _,
                _,
                refl,
                refl,
                (
                  _,
                  _,
                  refl,
                  refl,
                  (
                    _,
                    _,
                    refl,
                    refl,
                    (
                      _,
                      inl refl,
                      (
                        _,
                        inl refl,
                        (
                          _,
                          inr (inl refl),
                          (
                            _,
                            _,
                            refl,
                            refl,
                            (
                              _,
                              inl refl,
                              (
                                _,
                                inr (inl refl),
                                (
                                  _,
                                  _,
                                  refl,
                                  refl,
                                  (
                                    _,
                                    inl refl,
                                    (
                                      _,
                                      inr (inr (inl refl)),
                                      (
                                        _,
                                        _,
                                        refl,
                                        refl,
                                        (
                                          _,
                                          inl refl,
                                          (_, inl refl, (_, refl, (_, _, refl, refl, (_, refl, (_, inl refl, (_, inl refl, refl)))))),
                                        ),
                                      ),
                                    ),
                                  ),
                                ),
                              ),
                            ),
                          ),
                        ),
                      ),
                    ),
                  ),
                ),
              ),
            ),
          ),
        ),
      ),
    );
    spelled = refl;
    shallow = (omega arith, (omega arith, (omega arith, (omega arith, (omega arith, (omega arith, (omega arith, tt)))))));
  };
  trees = _;
  made = head _ _ _ _ (lexeme PartWord keyword) 0 none (spelled _ _ (lexeme Semicolon semicolon) 0 sum_made);
  same = refl;
}
