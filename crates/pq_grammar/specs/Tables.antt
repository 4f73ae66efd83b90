-- What the parser looks at, sort by sort.
use Rattle.std.specs.Prelude.{ℕ, Bool, true, false, List, [], ◌∷◌, ◌==◌}
use Rattle.pq_grammar.specs.declared.class.Class.{Class}
use Rattle.pq_grammar.specs.declared.class.Class.TheVariants.{SwitchWord, PortsWord, LimitWord, LinkWord, PartWord, QueryWord, RemoveWord}
use Rattle.pq_grammar.specs.declared.class.Class.TheVariants.{TrueWord, FalseWord, NotWord, AndWord, OrWord, FilterWord, ModWord, FwdWord}
use Rattle.pq_grammar.specs.declared.class.Class.TheVariants.{FloodWord, DropWord, IdentityWord, IfWord, OfWord, InAtom, OutAtom, InOutAtom}
use Rattle.pq_grammar.specs.declared.class.Class.TheVariants.{InGroup, OutGroup, InOutGroup, EndAtom, Name, Number, Mac, Ipv4, Ipv4Prefix}
use Rattle.pq_grammar.specs.declared.class.Class.TheVariants.{Ipv6, Equals, Semicolon, Comma, Left, Right, LeftBracket, RightBracket, Plus}
use Rattle.pq_grammar.specs.declared.class.Class.TheVariants.{Then, Caret, Bar, Ampersand, Tilde, Star}
use Rattle.pq_grammar.specs.declared.sort.Sort.{Sort}
use Rattle.pq_grammar.specs.declared.sort.Sort.TheVariants.{Document, Switches, PortsMore, LimitOption, Links, Parts, Queries, Edit}
use Rattle.pq_grammar.specs.declared.sort.Sort.TheVariants.{Removed, Pred, PredTail, PredMore, Conj, ConjTail, ConjMore, Literal, Test}
use Rattle.pq_grammar.specs.declared.sort.Sort.TheVariants.{Field, Value, Policy, PolicyTail, PolicyMore, Steps, StepsTail, StepsMore, Step}
use Rattle.pq_grammar.specs.declared.sort.Sort.TheVariants.{Paths, PathsTail, PathsMore, Both, BothTail, BothMore, Chain, ChainTail}
use Rattle.pq_grammar.specs.declared.sort.Sort.TheVariants.{ChainMore, Negation, StarOption, Atom, Groups, GroupsOption, GroupsMore, Group}
use Rattle.pq_grammar.specs.declared.sort.Sort.TheVariants.{ValuesOption, ValuesMore}

-- the number of a class
abbrev pub number : Class → ℕ
number SwitchWord = 0
number PortsWord = 1
number LimitWord = 2
number LinkWord = 3
number PartWord = 4
number QueryWord = 5
number RemoveWord = 6
number TrueWord = 7
number FalseWord = 8
number NotWord = 9
number AndWord = 10
number OrWord = 11
number FilterWord = 12
number ModWord = 13
number FwdWord = 14
number FloodWord = 15
number DropWord = 16
number IdentityWord = 17
number IfWord = 18
number OfWord = 19
number InAtom = 20
number OutAtom = 21
number InOutAtom = 22
number InGroup = 23
number OutGroup = 24
number InOutGroup = 25
number EndAtom = 26
number Name = 27
number Number = 28
number Mac = 29
number Ipv4 = 30
number Ipv4Prefix = 31
number Ipv6 = 32
number Equals = 33
number Semicolon = 34
number Comma = 35
number Left = 36
number Right = 37
number LeftBracket = 38
number RightBracket = 39
number Plus = 40
number Then = 41
number Caret = 42
number Bar = 43
number Ampersand = 44
number Tilde = 45
number Star = 46

-- the classes are one: they have one number
abbrev pub is_class : Class → Class → Bool
is_class a b = number a == number b

-- whether a phrase of the sort may have no token
abbrev pub may_be_empty : Sort → Bool
may_be_empty Document = true
may_be_empty Switches = true
may_be_empty PortsMore = true
may_be_empty LimitOption = true
may_be_empty Links = true
may_be_empty Parts = true
may_be_empty Queries = true
may_be_empty Edit = false
may_be_empty Removed = false
may_be_empty Pred = false
may_be_empty PredTail = true
may_be_empty PredMore = true
may_be_empty Conj = false
may_be_empty ConjTail = true
may_be_empty ConjMore = true
may_be_empty Literal = false
may_be_empty Test = false
may_be_empty Field = false
may_be_empty Value = false
may_be_empty Policy = false
may_be_empty PolicyTail = true
may_be_empty PolicyMore = true
may_be_empty Steps = false
may_be_empty StepsTail = true
may_be_empty StepsMore = true
may_be_empty Step = false
may_be_empty Paths = false
may_be_empty PathsTail = true
may_be_empty PathsMore = true
may_be_empty Both = false
may_be_empty BothTail = true
may_be_empty BothMore = true
may_be_empty Chain = false
may_be_empty ChainTail = true
may_be_empty ChainMore = true
may_be_empty Negation = false
may_be_empty StarOption = true
may_be_empty Atom = false
may_be_empty Groups = false
may_be_empty GroupsOption = true
may_be_empty GroupsMore = true
may_be_empty Group = false
may_be_empty ValuesOption = true
may_be_empty ValuesMore = true

-- the classes of the tokens that a phrase of the sort may begin with
abbrev pub first : Sort → List Class
first Document = SwitchWord ∷ LinkWord ∷ PartWord ∷ QueryWord ∷ []
first Switches = SwitchWord ∷ []
first PortsMore = Comma ∷ []
first LimitOption = LimitWord ∷ []
first Links = LinkWord ∷ []
first Parts = PartWord ∷ []
first Queries = QueryWord ∷ []
first Edit = PartWord ∷ QueryWord ∷ RemoveWord ∷ []
first Removed = PartWord ∷ QueryWord ∷ []
first Pred = SwitchWord ∷ TrueWord ∷ FalseWord ∷ NotWord ∷ Name ∷ Left ∷ []
first PredTail = OrWord ∷ []
first PredMore = OrWord ∷ []
first Conj = SwitchWord ∷ TrueWord ∷ FalseWord ∷ NotWord ∷ Name ∷ Left ∷ []
first ConjTail = AndWord ∷ []
first ConjMore = AndWord ∷ []
first Literal = SwitchWord ∷ TrueWord ∷ FalseWord ∷ NotWord ∷ Name ∷ Left ∷ []
first Test = SwitchWord ∷ Name ∷ []
first Field = SwitchWord ∷ Name ∷ []
first Value = Name ∷ Number ∷ Mac ∷ Ipv4 ∷ Ipv4Prefix ∷ Ipv6 ∷ []
first Policy = FilterWord ∷ ModWord ∷ FwdWord ∷ FloodWord ∷ DropWord ∷ IdentityWord ∷ IfWord ∷ Left ∷ []
first PolicyTail = Plus ∷ []
first PolicyMore = Plus ∷ []
first Steps = FilterWord ∷ ModWord ∷ FwdWord ∷ FloodWord ∷ DropWord ∷ IdentityWord ∷ IfWord ∷ Left ∷ []
first StepsTail = Then ∷ []
first StepsMore = Then ∷ []
first Step = FilterWord ∷ ModWord ∷ FwdWord ∷ FloodWord ∷ DropWord ∷ IdentityWord ∷ IfWord ∷ Left ∷ []
first Paths = InAtom ∷ OutAtom ∷ InOutAtom ∷ InGroup ∷ OutGroup ∷ InOutGroup ∷ EndAtom ∷ Left ∷ Tilde ∷ []
first PathsTail = Bar ∷ []
first PathsMore = Bar ∷ []
first Both = InAtom ∷ OutAtom ∷ InOutAtom ∷ InGroup ∷ OutGroup ∷ InOutGroup ∷ EndAtom ∷ Left ∷ Tilde ∷ []
first BothTail = Ampersand ∷ []
first BothMore = Ampersand ∷ []
first Chain = InAtom ∷ OutAtom ∷ InOutAtom ∷ InGroup ∷ OutGroup ∷ InOutGroup ∷ EndAtom ∷ Left ∷ Tilde ∷ []
first ChainTail = Caret ∷ []
first ChainMore = Caret ∷ []
first Negation = InAtom ∷ OutAtom ∷ InOutAtom ∷ InGroup ∷ OutGroup ∷ InOutGroup ∷ EndAtom ∷ Left ∷ Tilde ∷ []
first StarOption = Star ∷ []
first Atom = InAtom ∷ OutAtom ∷ InOutAtom ∷ InGroup ∷ OutGroup ∷ InOutGroup ∷ EndAtom ∷ []
first Groups = LeftBracket ∷ []
first GroupsOption = SwitchWord ∷ Name ∷ []
first GroupsMore = Comma ∷ []
first Group = SwitchWord ∷ Name ∷ []
first ValuesOption = OfWord ∷ []
first ValuesMore = Comma ∷ []

-- the classes of the tokens that may follow a phrase of the sort
abbrev pub follow : Sort → List Class
follow Document = []
follow Switches = LinkWord ∷ PartWord ∷ QueryWord ∷ []
follow PortsMore = LimitWord ∷ Semicolon ∷ []
follow LimitOption = Semicolon ∷ []
follow Links = PartWord ∷ QueryWord ∷ []
follow Parts = QueryWord ∷ []
follow Queries = []
follow Edit = []
follow Removed = Semicolon ∷ []
follow Pred = Comma ∷ Right ∷ []
follow PredTail = Comma ∷ Right ∷ []
follow PredMore = Comma ∷ Right ∷ []
follow Conj = OrWord ∷ Comma ∷ Right ∷ []
follow ConjTail = OrWord ∷ Comma ∷ Right ∷ []
follow ConjMore = OrWord ∷ Comma ∷ Right ∷ []
follow Literal = AndWord ∷ OrWord ∷ Comma ∷ Right ∷ []
follow Test = AndWord ∷ OrWord ∷ Comma ∷ Right ∷ []
follow Field = OfWord ∷ Equals ∷ Comma ∷ RightBracket ∷ []
follow Value = AndWord ∷ OrWord ∷ Comma ∷ Right ∷ []
follow Policy = Semicolon ∷ Comma ∷ Right ∷ []
follow PolicyTail = Semicolon ∷ Comma ∷ Right ∷ []
follow PolicyMore = Semicolon ∷ Comma ∷ Right ∷ []
follow Steps = Semicolon ∷ Comma ∷ Right ∷ Plus ∷ []
follow StepsTail = Semicolon ∷ Comma ∷ Right ∷ Plus ∷ []
follow StepsMore = Semicolon ∷ Comma ∷ Right ∷ Plus ∷ []
follow Step = Semicolon ∷ Comma ∷ Right ∷ Plus ∷ Then ∷ []
follow Paths = Semicolon ∷ Right ∷ []
follow PathsTail = Semicolon ∷ Right ∷ []
follow PathsMore = Semicolon ∷ Right ∷ []
follow Both = Semicolon ∷ Right ∷ Bar ∷ []
follow BothTail = Semicolon ∷ Right ∷ Bar ∷ []
follow BothMore = Semicolon ∷ Right ∷ Bar ∷ []
follow Chain = Semicolon ∷ Right ∷ Bar ∷ Ampersand ∷ []
follow ChainTail = Semicolon ∷ Right ∷ Bar ∷ Ampersand ∷ []
follow ChainMore = Semicolon ∷ Right ∷ Bar ∷ Ampersand ∷ []
follow Negation = Semicolon ∷ Right ∷ Caret ∷ Bar ∷ Ampersand ∷ []
follow StarOption = Semicolon ∷ Right ∷ Caret ∷ Bar ∷ Ampersand ∷ []
follow Atom = Semicolon ∷ Right ∷ Caret ∷ Bar ∷ Ampersand ∷ Star ∷ []
follow Groups = Comma ∷ Right ∷ []
follow GroupsOption = RightBracket ∷ []
follow GroupsMore = RightBracket ∷ []
follow Group = Comma ∷ RightBracket ∷ []
follow ValuesOption = Comma ∷ RightBracket ∷ []
follow ValuesMore = Right ∷ []

-- a weight that is above that of each sort in some alternative, and above the sum of what is before each alternative's first token
abbrev pub weight : Sort → ℕ
weight Document = 5
weight Switches = 1
weight PortsMore = 1
weight LimitOption = 1
weight Links = 1
weight Parts = 1
weight Queries = 1
weight Edit = 2
weight Removed = 1
weight Pred = 7
weight PredTail = 1
weight PredMore = 1
weight Conj = 5
weight ConjTail = 1
weight ConjMore = 1
weight Literal = 3
weight Test = 2
weight Field = 1
weight Value = 1
weight Policy = 5
weight PolicyTail = 1
weight PolicyMore = 1
weight Steps = 3
weight StepsTail = 1
weight StepsMore = 1
weight Step = 1
weight Paths = 16
weight PathsTail = 1
weight PathsMore = 1
weight Both = 14
weight BothTail = 1
weight BothMore = 1
weight Chain = 12
weight ChainTail = 1
weight ChainMore = 1
weight Negation = 10
weight StarOption = 1
weight Atom = 8
weight Groups = 7
weight GroupsOption = 6
weight GroupsMore = 1
weight Group = 4
weight ValuesOption = 1
weight ValuesMore = 1
