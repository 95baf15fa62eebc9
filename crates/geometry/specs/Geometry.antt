-- Document 01, "Geometry": page length P (`size`), page count N (`pages`), bytes of a page number n (`width`), and what follows from them.
use Rattle.std.specs.Prelude.{◌≡◌, Option, Some, None, Result, Ok, Err, Bool, ◌&&◌, List, ℕ, ◌+◌, ◌-◌, ◌*◌, ◌/◌, ◌≤◌, length, leb, eqb}
use Rattle.geometry.specs.declared.Geometry.{Geometry}
use Rattle.refusals.specs.declared.Refusal.{Refusal}
use Rattle.refusals.specs.declared.Fault.TheVariants.{Sizes}
use Rattle.geometry.specs.Choose.{choose}

-- page numbers take one byte for N up to 256, two above
unfoldable pub width_for : ℕ → ℕ
width_for pages = choose (leb pages 256) 1 2

-- P is 32 to 256, N is 2 to 65,535, the image exactly P times N bytes, the owner table at least four bytes a page
unfoldable pub right : ℕ → ℕ → ℕ → ℕ → Bool
right size pages image owners = leb 32 size && (leb size 256 && (leb 2 pages && (leb pages 65535 && (eqb image (size * pages) && leb (4 * pages) owners))))

-- the geometry, if they are right
unfoldable pub geometry_of : ℕ → ℕ → ℕ → ℕ → Option Geometry
geometry_of size pages image owners = choose (right size pages image owners) (Some (record { size = size; pages = pages; width = width_for pages })) None

-- else number 1
abbrev pub fitting : Option Geometry → Result Geometry Refusal
fitting (Some g) = Ok g
fitting None = Err (record { 0 = Sizes; 1 = 0 })

-- at most P - 3 - n data bytes in a packet
unfoldable pub data_capacity : Geometry → ℕ
data_capacity g = g.size - 3 - g.width

-- an entry of 5 + 2n bytes
unfoldable pub entry_size : Geometry → ℕ
entry_size g = 5 + 2 * g.width

-- a control field of 6 + n bytes
unfoldable pub control_size : Geometry → ℕ
control_size g = 6 + g.width

-- entries that fit in a directory's first page
unfoldable pub first_entries : Geometry → ℕ
first_entries g = (g.size - (9 + 2 * g.width)) / entry_size g

-- entries that fit in a continuation page
unfoldable pub later_entries : Geometry → ℕ
later_entries g = (g.size - (3 + g.width)) / entry_size g

-- a bitmap file holds N / 8 bytes, rounded up
unfoldable pub bitmap_size : Geometry → ℕ
bitmap_size g = (g.pages + 7) / 8

-- a geometry that the rules allow; its page numbers take one byte or two
pub record Valid (g : Geometry) : Type 0 where
  pub least : 32 ≤ g.size
  pub most : g.size ≤ 256
  pub some : 2 ≤ g.pages
  pub few : g.pages ≤ 65535
  pub wide : g.width ≡ width_for g.pages
  pub one : 1 ≤ g.width
  pub two : g.width ≤ 2

-- and an image of that length
pub record Fit (g : Geometry) (image : List ℕ) : Type 0 where
  pub valid : Valid g
  pub whole : length image ≡ g.size * g.pages
