use Rattle.mqtt5_broker.proofs.Permitted.{new_within, all_within, within_more, forwarded_within, part_allowed, copies_within, publish_dropped, will_refused, other_refused}
use Rattle.mqtt5_broker.proofs.laws.rights_law.Goals as goal

pub returns-clause-filters : goal.returns-clause-filters
returns-clause-filters c = λ t f fs h e. within_more c.matching_laws.ensures t f fs h e

pub returns-clause-new : goal.returns-clause-new
returns-clause-new c = λ b e h. new_within b e h

pub returns-clause-calls : goal.returns-clause-calls
returns-clause-calls c = λ cs b s w. all_within cs b s w

pub returns-clause-forwarded : goal.returns-clause-forwarded
returns-clause-forwarded c = λ i u own p q b w e h. forwarded_within c.matching_laws.ensures i u own p q b w e h

pub returns-clause-part : goal.returns-clause-part
returns-clause-part c = λ u rs s. part_allowed u rs s

pub returns-clause-copies : goal.returns-clause-copies
returns-clause-copies c = λ u rs kept ss x h. copies_within c.matching_laws.ensures u rs kept ss x h

pub returns-clause-publish : goal.returns-clause-publish
returns-clause-publish c = λ d i p b h. publish_dropped d i p b h

pub returns-clause-will : goal.returns-clause-will
returns-clause-will c = λ d k w b h. will_refused d k w b h

pub returns-clause-other : goal.returns-clause-other
returns-clause-other c = λ d i k will b named e h. other_refused d i k will b named e h
