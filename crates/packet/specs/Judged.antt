-- For contracts: what the code answers of a packet, and a packet whose check is not computed.
use Rattle.std.specs.Prelude.{Option, Some, None, ◌&&◌, List, ℕ, ◌+◌, ◌-◌, leb, length, get_or, take, drop}
use Rattle.geometry.specs.Choose.{choose}
use Rattle.packet.specs.declared.Whole.{Whole}
use Rattle.packet.specs.Packet.{Packet, bad, good, pointer_of}

abbrev pub whole : ℕ → ℕ → Option Whole
whole size next = Some (record { length = size; next = next })

abbrev pub judged : Packet → Option Whole
judged bad = None
judged (good bytes next) = whole (length bytes) next

-- the packet in a page by its length alone
unfoldable pub frame_of : ℕ → List ℕ → Packet
frame_of n page =
    let len = get_or page 0 0 in
    choose (leb n len && leb (len + 3) (length page)) (good (take (len - n) (drop 1 page)) (pointer_of n len page)) bad
