-- The call that numbers stand for: one at a tile, or one at the home (protocol's table of calls).
use Rattle.protocol.specs.Parts.{Call}
use Rattle.protocol.specs.Calls.{tile_calls, home_calls, call_from}
use Rattle.calls.specs.declared.tile_calls.TileCall.{TileCall}
use Rattle.calls.specs.declared.home_calls.HomeCall.{HomeCall}

abbrev pub call_at_tile : TileCall → Call
call_at_tile c = call_from tile_calls c.tag c.tile c.word c.value

abbrev pub call_at_home : HomeCall → Call
call_at_home c = call_from home_calls c.tag c.tile 0 0
