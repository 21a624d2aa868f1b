-- The grammar from a phase on: which header lines complete it. From the tree on it is the grammar itself (completing_good, good_completing).
-- Assumes nothing.
use mathlib.Core.List.{List, [], ◌∷◌, ◌++◌, map, append_assoc, append-nil}
use mathlib.Core.Path.{◌≡◌, refl, sym, ap, ◌∙◌}
use Prim.Native.Nat.{ℕ}
use lib.Dec.{T}
use Rattle.rules.specs.Bytes.{bytes, LF, space}
use Rattle.rules.specs.Lines.{inner}
use Rattle.rules.specs.Lists.{All, filled}
use Rattle.rules.proofs.Lists.{all_of}
use Rattle.commit.specs.Grammar.{name_byte, hex_digit, Size, Identifier, HeaderLine, named, written, written_all, Continued, Identifiers, Others, Good}
use Rattle.commit.specs.declared.Phase.{Phase}
use Rattle.commit.proofs.Shapes.{T_all, hex_inner}

pub data Completing : Phase → List HeaderLine → Type 0 where
  tree : {size : ℕ} {t : List ℕ} {hs : List HeaderLine} → Size size → Identifier size t → Completing (Phase.Parents size) hs
      → Completing Phase.Tree (named (bytes "tree") t ∷ hs)
  parent : {size : ℕ} {t : List ℕ} {hs : List HeaderLine} → Identifier size t → Completing (Phase.Parents size) hs
      → Completing (Phase.Parents size) (named (bytes "parent") t ∷ hs)
  author : {size : ℕ} {t : List ℕ} {hs : List HeaderLine} → All inner t → Completing Phase.Committer hs → Completing (Phase.Parents size) (named (bytes "author") t ∷ hs)
  committer : {t : List ℕ} {hs : List HeaderLine} → All inner t → Completing Phase.Others hs → Completing Phase.Committer (named (bytes "committer") t ∷ hs)
  others : {hs : List HeaderLine} → Others hs → Completing Phase.Others hs
  under : {hs : List HeaderLine} → Others hs → Completing Phase.Under hs

-- ---- the grammar gives them

parents_on : {size : ℕ} {ps : List (List ℕ)} {hs : List HeaderLine} → Identifiers size ps → Completing (Phase.Parents size) hs
    → Completing (Phase.Parents size) (map (named (bytes "parent")) ps ++ hs)
parents_on Identifiers.none f = f
parents_on (Identifiers.more i is) f = parent i (parents_on is f)

pub good_completing : {content : List ℕ} {header : List HeaderLine} {message : List ℕ} → Good content header message → Completing Phase.Tree header
good_completing g =
    rw g.order (tree g.one_size g.tree_id (parents_on g.parent_ids (author g.author_line (committer g.committer_line (others g.other_lines)))))

-- ---- and back

-- a good header but for its tree
record Tail (size : ℕ) (hs : List HeaderLine) : Type 0 where
  parents : List (List ℕ)
  by : List ℕ
  committed : List ℕ
  rest : List HeaderLine
  order : hs ≡ map (named (bytes "parent")) parents ++ named (bytes "author") by ∷ named (bytes "committer") committed ∷ rest
  ids : Identifiers size parents
  by_line : All inner by
  committed_line : All inner committed
  rest_lines : Others rest

tail : {size : ℕ} {hs : List HeaderLine} → Completing (Phase.Parents size) hs → Tail size hs
tail (parent {t = t} i f) =
    let r = tail f in
    record {
      parents = t ∷ r.parents;
      by = r.by;
      committed = r.committed;
      rest = r.rest;
      order = ap (λ (z : List HeaderLine). named (bytes "parent") t ∷ z) r.order;
      ids = Identifiers.more i r.ids;
      by_line = r.by_line;
      committed_line = r.committed_line;
      rest_lines = r.rest_lines;
    }
tail (author {t = t} a (committer {t = s} b (others {hs = hs} o))) =
    record { parents = []; by = t; committed = s; rest = hs; order = refl; ids = Identifiers.none; by_line = a; committed_line = b; rest_lines = o }

pub completing_good : {content : List ℕ} {header : List HeaderLine} {message : List ℕ} → Completing Phase.Tree header → content ≡ written_all header ++ LF ∷ message
    → Good content header message
completing_good (tree {size = k} {t = t} z i f) e =
    let r = tail f in
    record {
      size = k;
      tree = t;
      parents = r.parents;
      author = r.by;
      committer = r.committed;
      others = r.rest;
      order = ap (λ (z : List HeaderLine). named (bytes "tree") t ∷ z) r.order;
      reads = e;
      one_size = z;
      tree_id = i;
      parent_ids = r.ids;
      author_line = r.by_line;
      committer_line = r.committed_line;
      other_lines = r.rest_lines;
    }

-- ---- what is written

pub written_on : (n c s : List ℕ) → written (named n c) ++ s ≡ n ++ space ∷ (c ++ LF ∷ s)
written_on n c s = append_assoc n (space ∷ (c ++ LF ∷ [])) s ∙ ap (λ (z : List ℕ). n ++ space ∷ z) (append_assoc c (LF ∷ []) s)

pub all_written : (n c : List ℕ) (hs : List HeaderLine) (s : List ℕ) → written_all (named n c ∷ hs) ++ s ≡ n ++ space ∷ (c ++ LF ∷ (written_all hs ++ s))
all_written n c hs s = append_assoc (written (named n c)) (written_all hs) s ∙ written_on n c (written_all hs ++ s)

-- ---- whatever its name, a header line is a name, a line's content and what continues it

pub data Lines : List HeaderLine → Type 0 where
  none : Lines []
  more : {n c : List ℕ} (t : List ℕ) {u : List ℕ} {hs : List HeaderLine} → T (filled n) → All name_byte n → All inner t → Continued u → c ≡ t ++ u → Lines hs → Lines (named n c ∷ hs)

others_lines : {hs : List HeaderLine} → Others hs → Lines hs
others_lines Others.none = none
others_lines (Others.more t o a c os) = more t o.some o.name_bytes a c refl (others_lines os)

plain : {n : List ℕ} (c : List ℕ) {hs : List HeaderLine} → T (filled n) → All name_byte n → All inner c → Lines hs → Lines (named n c ∷ hs)
plain c f b a ls = more c f b a Continued.none (sym (append-nil c)) ls

pub id_inner : (size : ℕ) (t : List ℕ) → Identifier size t → All inner t
id_inner size t i = all_of hex_digit inner hex_inner t i.digits

pub completing_lines : {ph : Phase} {hs : List HeaderLine} → Completing ph hs → Lines hs
unfolding name_byte
completing_lines (tree {size = k} {t = t} z i f) = plain t tt (T_all name_byte (bytes "tree") tt) (id_inner k t i) (completing_lines f)
completing_lines (parent {size = k} {t = t} i f) = plain t tt (T_all name_byte (bytes "parent") tt) (id_inner k t i) (completing_lines f)
completing_lines (author {t = t} a f) = plain t tt (T_all name_byte (bytes "author") tt) a (completing_lines f)
completing_lines (committer {t = t} a f) = plain t tt (T_all name_byte (bytes "committer") tt) a (completing_lines f)
completing_lines (others o) = others_lines o
completing_lines (under o) = others_lines o
