use Rattle.mqtt5_connect.proofs.Fits.{each_fits}
use Rattle.mqtt5_connect.proofs.connect.Connect.put_body.Goals as goal

pub put_under-requires-clause-fits : goal.put_under-requires-clause-fits
put_under-requires-clause-fits c = (each_fits c.args.will.now c.args.login.now c.requires.parts).0

pub put_under-requires-2-clause-fits : goal.put_under-requires-2-clause-fits
put_under-requires-2-clause-fits c = (each_fits c.args.will.now c.args.login.now c.requires.parts).1
