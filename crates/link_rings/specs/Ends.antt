-- The ends of rings as contracts see them.
use Rattle.rtrb.specs.Ring.{sent, received, known_items}
use Rattle.link_rings.specs.Rings.{OutView, InView, out_of, in_of}
use Rattle.link_rings.specs.declared.outgoing.OutEnd.{OutEnd}
use Rattle.link_rings.specs.declared.incoming.InEnd.{InEnd}

abbrev pub out_view : OutEnd → OutView
out_view o = out_of o.link (sent o.ring)

abbrev pub in_view : InEnd → InView
in_view i = in_of i.link (received i.ring) (known_items i.ring)
