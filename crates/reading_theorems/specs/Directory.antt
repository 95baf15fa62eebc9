-- A directory that stands in a view, with all below it, clear of other pages: what both halves of the theorem speak of.
use Rattle.std.specs.Prelude.{◌≡◌, refl, List, [], ◌∷◌, ◌++◌, ℕ, suc, ◌+◌, ◌%◌, ◌≤◌, ◌<◌, length, take, drop}
use Rattle.std.proofs.Common.{ap, subst, sym, ◌∙◌, arith, length-append}
use Rattle.geometry.specs.declared.Geometry.{Geometry}
use Rattle.geometry.specs.Geometry.{entry_size, control_size}
use Rattle.geometry.specs.Number.{Bytes}
use Rattle.packet.specs.Packet.{good, View}
use Rattle.rules.specs.Result.{ok}
use Rattle.rules.specs.PageSets.{count, range, Once}
use Rattle.rules.proofs.PageSetLaws.{hit_same, Hit, same, other, hits, count_append}
use Rattle.rules.specs.Chain.{Views, Link, link, pages, first, linked, Test}
use Rattle.rules.specs.ChainLaws.{rest}
use Rattle.rules.specs.Tree.{Items, end, page, file, dir, start_of, file_entry, directory_entry, entry, tokens, token_bytes, directory_links, own_pages, inner_pages, all_pages, keys, Map, map_pages}
use Rattle.rules.specs.Names.{entry_bytes}
use Rattle.rules.proofs.StampLaws.{stamps_links}
use Rattle.reading_theorems.specs.EntryLaws.{entry_size_lem, length_entry}
use Rattle.reading_theorems.specs.TokenLaws.{length_stamps}
use Rattle.rules.specs.Control.{root_control, Parent, the_root, sub_control, whole_entries, root_page, sub_page}
use Rattle.rules.specs.Bitmap.{map_size}
use Rattle.rules.specs.WellFormed.{HasPackets, HasBelow, map_packets, IsDirectory, Under, Entries, MapHolds, WellFormedWith}

-- with so many levels left for it and what is below it
pub record DirectoryHolds (g : Geometry) (vs : Views) (levels : ℕ) (control : List ℕ) (here : Parent) (claimed : List ℕ) (t : Items) : Type 0 where
  pub is_directory : IsDirectory t
  pub start : start_of t ≡ here.start
  pub names : Once (keys t)
  pub entries : Under levels (λ below. Entries g.width below t)
  pub chain : HasPackets vs.pages (linked (directory_links g control t))
  pub below : HasBelow g vs here t
  pub clear : (x : ℕ) → count x (all_pages t) + count x claimed ≤ count x (range g.pages)

-- a subdirectory of this name and start page whose entry stands in the directory `up`
abbrev pub SubHolds : Geometry → Views → ℕ → Parent → ℕ → ℕ → List ℕ → Items → Type 0
SubHolds g vs levels up name start claimed d = DirectoryHolds g vs levels (sub_control g.width up) (record { name = name; start = start }) claimed d

-- ---- the tests of a directory's pages
-- later pages hold whole entries and nothing else
abbrev pub LaterWhole : Geometry → Test → Type 0
LaterWhole g test = (i p : ℕ) (b : List ℕ) → test (suc i) p b ≡ whole_entries g p b

pub root_later : (g : Geometry) → LaterWhole g (root_page g)
unfolding root_page
root_later g i p b = refl

pub sub_later : (g : Geometry) (up : Parent) → LaterWhole g (sub_page g up)
unfolding sub_page
sub_later g up i p b = refl

-- a first page that passes begins with the control field, then whole entries
abbrev pub FirstReads : Geometry → View → Test → List ℕ → ℕ → Type 0
FirstReads g v test control start =
    (b : List ℕ) (next : ℕ) → v start ≡ good b next → test 0 start b ≡ ok tt
    → (take (control_size g) b ≡ control) × (length (drop (control_size g) b) % entry_size g ≡ 0)

-- and each such page passes
abbrev pub FirstPasses : Geometry → Test → List ℕ → Type 0
FirstPasses g test control = (p : ℕ) (rest : List ℕ) → length rest % entry_size g ≡ 0 → test 0 p (control ++ rest) ≡ ok tt

-- ---- pages of a directory
pub own_links : (g : Geometry) (control : List ℕ) (t : Items) → pages (directory_links g control t) ≡ own_pages t
own_links g control end = refl
own_links g control (page p t) = ap (λ (l : List ℕ). p ∷ l) (own_links g [] t)
own_links g control (file l ls t) = ap pages (stamps_links g.width control l.stamps (entry (file_entry l ls) ∷ tokens t)) ∙ own_links g control t
own_links g control (dir l d t) = ap pages (stamps_links g.width control l.stamps (entry (directory_entry l d) ∷ tokens t)) ∙ own_links g control t

pub all_split : (x : ℕ) (t : Items) → count x (all_pages t) ≡ count x (own_pages t) + count x (inner_pages t)
all_split x t = count_append x (own_pages t) (inner_pages t)

pub directory_of : (g : Geometry) (control : List ℕ) (t : Items) → token_bytes g.width (tokens t) ≡ [] → 0 < length (directory_links g control t)
    → IsDirectory t
directory_of g control end m k = absurd (omega arith)
directory_of g control (page p t) m k = tt
directory_of g control (file l ls t) m k =
    let e = file_entry l ls in
    absurd (omega (arith, ap length m, length_stamps g l.stamps (entry e ∷ tokens t), length-append (entry_bytes g.width e) (token_bytes g.width (tokens t)), length_entry g e, entry_size_lem g))
directory_of g control (dir l d t) m k =
    let e = directory_entry l d in
    absurd (omega (arith, ap length m, length_stamps g l.stamps (entry e ∷ tokens t), length-append (entry_bytes g.width e) (token_bytes g.width (tokens t)), length_entry g e, entry_size_lem g))

pub start_of_lem : (g : Geometry) (control : List ℕ) (t : Items) → IsDirectory t → start_of t ≡ first (directory_links g control t)
start_of_lem g control end i = absurd i
start_of_lem g control (page p t) i = refl
start_of_lem g control (file l ls t) i = absurd i
start_of_lem g control (dir l d t) i = absurd i

-- a directory whose pages do not have page 0 starts elsewhere
pub start_positive : (t : Items) → IsDirectory t → count 0 (all_pages t) ≡ 0 → 0 < start_of t
start_positive end i h = absurd i
start_positive (page p t) i h = elim (hits 0 p) [ same e k ↦ absurd (omega arith) | other e k ↦ omega arith ]
start_positive (file l ls t) i h = absurd i
start_positive (dir l d t) i h = absurd i

pub rest_zero : (ls : List Link) → count 0 (pages ls) ≡ 0 → count 0 (pages (rest ls)) ≡ 0
rest_zero [] h = refl
rest_zero (link p b ∷ ls) h = omega arith

pub once_cons : (y : ℕ) (ys : List ℕ) → count y ys ≡ 0 → Once ys → Once (y ∷ ys)
once_cons y ys h o x = go (hits x y)
  where
    go : Hit x y → count x (y ∷ ys) ≤ 1
    go (same e i) =
        let at_y : count y (y ∷ ys) ≤ 1 = omega (arith, hit_same y) in
        subst (λ (z : ℕ). count z (y ∷ ys) ≤ 1) (sym e) at_y
    go (other e i) = omega (arith, o x)

-- ---- a well-formed image is its root, with all below it, and the bitmap's place
module _ (g : Geometry) (vs : Views) (bits : List ℕ) (m : Map) (t : Items) where
  abbrev pub RootHolds : Type 0
  RootHolds = DirectoryHolds g vs 9 (root_control g.width bits m) the_root (map_pages m) t

  pub well_formed_lem : RootHolds → MapHolds g bits m → length bits ≡ map_size g m → Bytes bits → HasPackets vs.pages (map_packets m)
      → WellFormedWith g vs bits (record { tree = t; map = m })
  well_formed_lem d h r b s = record {
    is_directory = d.is_directory;
    at_zero = d.start;
    names = d.names;
    entries = d.entries;
    map = h;
    room = r;
    bytes = b;
    packets = record { own = d.chain; below = d.below; map = s };
    apart = λ z. omega (arith, count_append z (all_pages t) (map_pages m), d.clear z);
  }

  pub root_holds : WellFormedWith g vs bits (record { tree = t; map = m }) → RootHolds
  root_holds h = record {
    is_directory = h.is_directory;
    start = h.at_zero;
    names = h.names;
    entries = h.entries;
    chain = h.packets.own;
    below = h.packets.below;
    clear = λ x. omega (arith, h.apart x, count_append x (all_pages t) (map_pages m));
  }
