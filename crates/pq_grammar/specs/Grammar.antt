-- The grammar of documents and of edits.
use Rattle.std.specs.Prelude.{List, [], ◌∷◌}
use Rattle.pq_grammar.specs.declared.class.Class.TheVariants.{SwitchWord, PortsWord, LimitWord, LinkWord, PartWord, QueryWord, RemoveWord}
use Rattle.pq_grammar.specs.declared.class.Class.TheVariants.{TrueWord, FalseWord, NotWord, AndWord, OrWord, FilterWord, ModWord, FwdWord}
use Rattle.pq_grammar.specs.declared.class.Class.TheVariants.{FloodWord, DropWord, IdentityWord, IfWord, OfWord, InAtom, OutAtom, InOutAtom}
use Rattle.pq_grammar.specs.declared.class.Class.TheVariants.{InGroup, OutGroup, InOutGroup, EndAtom, Name, Number, Mac, Ipv4, Ipv4Prefix}
use Rattle.pq_grammar.specs.declared.class.Class.TheVariants.{Ipv6, Equals, Semicolon, Comma, Left, Right, LeftBracket, RightBracket, Plus}
use Rattle.pq_grammar.specs.declared.class.Class.TheVariants.{Then, Caret, Bar, Ampersand, Tilde, Star}
use Rattle.pq_grammar.specs.declared.sort.Sort.{Sort}
use Rattle.pq_grammar.specs.declared.sort.Sort.TheVariants.{Document, Switches, PortsMore, LimitOption, Links, Parts, Queries, Edit}
use Rattle.pq_grammar.specs.declared.sort.Sort.TheVariants.{Removed, Pred, PredTail, PredMore, Conj, ConjTail, ConjMore, Literal, Test}
use Rattle.pq_grammar.specs.declared.sort.Sort.TheVariants.{Field, Value, Policy, PolicyTail, PolicyMore, Steps, StepsTail, StepsMore, Step}
use Rattle.pq_grammar.specs.declared.sort.Sort.TheVariants.{Paths, PathsTail, PathsMore, Both, BothTail, BothMore, Chain, ChainTail}
use Rattle.pq_grammar.specs.declared.sort.Sort.TheVariants.{ChainMore, Negation, StarOption, Atom, Groups, GroupsOption, GroupsMore, Group}
use Rattle.pq_grammar.specs.declared.sort.Sort.TheVariants.{ValuesOption, ValuesMore}
use Rattle.pq_grammar.specs.declared.symbol.Role.TheVariants.{Leaf, Spelled, Head, Lead}
use Rattle.pq_grammar.specs.declared.symbol.Symbol.{Symbol}
use Rattle.pq_grammar.specs.declared.symbol.Symbol.TheVariants.{Token, Opening, Leave, Close, Part}

-- what a phrase of each sort may consist of
abbrev pub alternatives : Sort → List (List Symbol)
alternatives Document = (Part Switches ∷ Part Links ∷ Part Parts ∷ Part Queries ∷ []) ∷ []
alternatives Switches =
    [] ∷ (Token Head SwitchWord ∷ Token Leaf Name ∷ Token Spelled Equals ∷ Token Leaf Number ∷ Token Head PortsWord ∷ Token Leaf Number ∷
    Part PortsMore ∷ Close ∷ Part LimitOption ∷ Token Spelled Semicolon ∷ Close ∷ Part Switches ∷ []) ∷ []
alternatives PortsMore = [] ∷ (Token Spelled Comma ∷ Token Leaf Number ∷ Part PortsMore ∷ []) ∷ []
alternatives LimitOption = [] ∷ (Token Head LimitWord ∷ Token Leaf Number ∷ Close ∷ []) ∷ []
alternatives Links = [] ∷
    (Token Head LinkWord ∷ Token Leaf Name ∷ Token Leaf Number ∷ Token Leaf Name ∷ Token Leaf Number ∷ Token Spelled Semicolon ∷ Close ∷
    Part Links ∷ []) ∷ []
alternatives Parts = [] ∷ (Token Head PartWord ∷ Token Leaf Name ∷ Token Spelled Equals ∷ Part Policy ∷ Token Spelled Semicolon ∷ Close ∷ Part Parts ∷ []) ∷ []
alternatives Queries =
    [] ∷ (Token Head QueryWord ∷ Token Leaf Name ∷ Token Spelled Equals ∷ Part Paths ∷ Token Spelled Semicolon ∷ Close ∷ Part Queries ∷ [])
    ∷ []
alternatives Edit = (Token Head PartWord ∷ Token Leaf Name ∷ Token Spelled Equals ∷ Part Policy ∷ Token Spelled Semicolon ∷ Close ∷ []) ∷
    (Token Head QueryWord ∷ Token Leaf Name ∷ Token Spelled Equals ∷ Part Paths ∷ Token Spelled Semicolon ∷ Close ∷ []) ∷
    (Token Head RemoveWord ∷ Part Removed ∷ Token Spelled Semicolon ∷ Close ∷ []) ∷ []
alternatives Removed = (Token Head PartWord ∷ Token Leaf Name ∷ Close ∷ []) ∷ (Token Head QueryWord ∷ Token Leaf Name ∷ Close ∷ []) ∷ []
alternatives Pred = (Part Conj ∷ Part PredTail ∷ []) ∷ []
alternatives PredTail = [] ∷ (Token Lead OrWord ∷ Part Conj ∷ Part PredMore ∷ Close ∷ []) ∷ []
alternatives PredMore = [] ∷ (Token Spelled OrWord ∷ Part Conj ∷ Part PredMore ∷ []) ∷ []
alternatives Conj = (Part Literal ∷ Part ConjTail ∷ []) ∷ []
alternatives ConjTail = [] ∷ (Token Lead AndWord ∷ Part Literal ∷ Part ConjMore ∷ Close ∷ []) ∷ []
alternatives ConjMore = [] ∷ (Token Spelled AndWord ∷ Part Literal ∷ Part ConjMore ∷ []) ∷ []
alternatives Literal = (Opening Head NotWord ∷ Part Literal ∷ Close ∷ Leave ∷ []) ∷ (Token Leaf TrueWord ∷ []) ∷
    (Token Leaf FalseWord ∷ []) ∷ (Part Test ∷ []) ∷ (Opening Spelled Left ∷ Part Pred ∷ Token Spelled Right ∷ Leave ∷ []) ∷ []
alternatives Test = (Part Field ∷ Token Spelled Equals ∷ Part Value ∷ Close ∷ []) ∷ []
alternatives Field = (Token Head SwitchWord ∷ []) ∷ (Token Head Name ∷ []) ∷ []
alternatives Value = (Token Leaf Number ∷ []) ∷ (Token Leaf Mac ∷ []) ∷ (Token Leaf Ipv4 ∷ []) ∷ (Token Leaf Ipv4Prefix ∷ []) ∷
    (Token Leaf Ipv6 ∷ []) ∷ (Token Leaf Name ∷ []) ∷ []
alternatives Policy = (Part Steps ∷ Part PolicyTail ∷ []) ∷ []
alternatives PolicyTail = [] ∷ (Token Lead Plus ∷ Part Steps ∷ Part PolicyMore ∷ Close ∷ []) ∷ []
alternatives PolicyMore = [] ∷ (Token Spelled Plus ∷ Part Steps ∷ Part PolicyMore ∷ []) ∷ []
alternatives Steps = (Part Step ∷ Part StepsTail ∷ []) ∷ []
alternatives StepsTail = [] ∷ (Token Lead Then ∷ Part Step ∷ Part StepsMore ∷ Close ∷ []) ∷ []
alternatives StepsMore = [] ∷ (Token Spelled Then ∷ Part Step ∷ Part StepsMore ∷ []) ∷ []
alternatives Step = (Token Leaf IdentityWord ∷ []) ∷ (Token Leaf DropWord ∷ []) ∷ (Token Leaf FloodWord ∷ []) ∷
    (Token Head FilterWord ∷ Opening Spelled Left ∷ Part Pred ∷ Token Spelled Right ∷ Leave ∷ Close ∷ []) ∷
    (Token Head ModWord ∷ Opening Spelled Left ∷ Part Test ∷ Token Spelled Right ∷ Leave ∷ Close ∷ []) ∷
    (Token Head FwdWord ∷ Opening Spelled Left ∷ Token Leaf Number ∷ Token Spelled Right ∷ Leave ∷ Close ∷ []) ∷
    (Token Head IfWord ∷ Opening Spelled Left ∷ Part Pred ∷ Token Spelled Comma ∷ Part Policy ∷ Token Spelled Comma ∷ Part Policy ∷ Token
    Spelled Right ∷ Leave ∷ Close ∷ []) ∷ (Opening Spelled Left ∷ Part Policy ∷ Token Spelled Right ∷ Leave ∷ []) ∷ []
alternatives Paths = (Part Both ∷ Part PathsTail ∷ []) ∷ []
alternatives PathsTail = [] ∷ (Token Lead Bar ∷ Part Both ∷ Part PathsMore ∷ Close ∷ []) ∷ []
alternatives PathsMore = [] ∷ (Token Spelled Bar ∷ Part Both ∷ Part PathsMore ∷ []) ∷ []
alternatives Both = (Part Chain ∷ Part BothTail ∷ []) ∷ []
alternatives BothTail = [] ∷ (Token Lead Ampersand ∷ Part Chain ∷ Part BothMore ∷ Close ∷ []) ∷ []
alternatives BothMore = [] ∷ (Token Spelled Ampersand ∷ Part Chain ∷ Part BothMore ∷ []) ∷ []
alternatives Chain = (Part Negation ∷ Part ChainTail ∷ []) ∷ []
alternatives ChainTail = [] ∷ (Token Lead Caret ∷ Part Negation ∷ Part ChainMore ∷ Close ∷ []) ∷ []
alternatives ChainMore = [] ∷ (Token Spelled Caret ∷ Part Negation ∷ Part ChainMore ∷ []) ∷ []
alternatives Negation = (Opening Head Tilde ∷ Part Negation ∷ Close ∷ Leave ∷ []) ∷ (Part Atom ∷ Part StarOption ∷ []) ∷
    (Opening Spelled Left ∷ Part Paths ∷ Token Spelled Right ∷ Leave ∷ Part StarOption ∷ []) ∷ []
alternatives StarOption = [] ∷ (Token Lead Star ∷ Close ∷ []) ∷ []
alternatives Atom = (Token Head InAtom ∷ Opening Spelled Left ∷ Part Pred ∷ Token Spelled Right ∷ Leave ∷ Close ∷ []) ∷
    (Token Head OutAtom ∷ Opening Spelled Left ∷ Part Pred ∷ Token Spelled Right ∷ Leave ∷ Close ∷ []) ∷
    (Token Head EndAtom ∷ Opening Spelled Left ∷ Part Pred ∷ Token Spelled Right ∷ Leave ∷ Close ∷ []) ∷
    (Token Head InOutAtom ∷ Opening Spelled Left ∷ Part Pred ∷ Token Spelled Comma ∷ Part Pred ∷ Token Spelled Right ∷ Leave ∷ Close ∷ []) ∷
    (Token Head InGroup ∷ Opening Spelled Left ∷ Part Pred ∷ Token Spelled Comma ∷ Part Groups ∷ Token Spelled Right ∷ Leave ∷ Close ∷ []) ∷
    (Token Head OutGroup ∷ Opening Spelled Left ∷ Part Pred ∷ Token Spelled Comma ∷ Part Groups ∷ Token Spelled Right ∷ Leave ∷ Close ∷ [])
    ∷ (Token Head InOutGroup ∷ Opening Spelled Left ∷ Part Pred ∷ Token Spelled Comma ∷ Part Groups ∷ Token Spelled Comma ∷ Part Pred ∷
    Token Spelled Comma ∷ Part Groups ∷ Token Spelled Right ∷ Leave ∷ Close ∷ []) ∷ []
alternatives Groups = (Opening Head LeftBracket ∷ Part GroupsOption ∷ Token Spelled RightBracket ∷ Close ∷ Leave ∷ []) ∷ []
alternatives GroupsOption = [] ∷ (Part Group ∷ Part GroupsMore ∷ []) ∷ []
alternatives GroupsMore = [] ∷ (Token Spelled Comma ∷ Part Group ∷ Part GroupsMore ∷ []) ∷ []
alternatives Group = (Part Field ∷ Part ValuesOption ∷ Close ∷ []) ∷ []
alternatives ValuesOption = [] ∷ (Token Spelled OfWord ∷ Opening Spelled Left ∷ Part Value ∷ Part ValuesMore ∷ Token Spelled Right ∷ Leave ∷ []) ∷ []
alternatives ValuesMore = [] ∷ (Token Spelled Comma ∷ Part Value ∷ Part ValuesMore ∷ []) ∷ []
