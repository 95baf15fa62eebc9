-- For contracts: the chain walk of document 01, "Packet and chain": a position that steps from page to page and carries its count.
use Rattle.std.specs.Prelude.{Result, Ok, Err, ℕ, ◌+◌, ltb, length}
use Rattle.refusals.specs.declared.Refusal.{Refusal}
use Rattle.refusals.specs.declared.Fault.TheVariants as fault
use Rattle.geometry.specs.declared.Geometry.{Geometry}
use Rattle.geometry.specs.Choose.{choose}
use Rattle.packet.specs.Packet.{Packet, bad, good, View}
use Rattle.chain.specs.declared.Cursor.{Cursor}

abbrev pub first_step : ℕ → ℕ → Cursor
first_step p from = record { page = p; from = from; count = 0; bytes = 0 }

-- the position after the page of c, which has so many data bytes and the pointer n
abbrev pub after : Cursor → ℕ → ℕ → Cursor
after c size n = record { page = n; from = c.page; count = c.count + 1; bytes = c.bytes + size }

abbrev pub Step : Type 0
Step = Result (ℕ × Cursor) Refusal

abbrev pub passed : Cursor → Packet → Step
passed c bad = Err (record { 0 = fault.Packet; 1 = c.page })
passed c (good b n) = Ok (length b, after c (length b) n)

-- a step: the page's number (6, told with the page that holds it), then its packet (2)
unfoldable pub step_of : Geometry → View → Cursor → Step
step_of g v c = choose (ltb c.page g.pages) (passed c (v c.page)) (Err (record { 0 = fault.PageNumber; 1 = c.from }))
