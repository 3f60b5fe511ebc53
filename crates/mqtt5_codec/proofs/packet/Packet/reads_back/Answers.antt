use Rattle.mqtt5_codec.proofs.PacketsAgain.{pingreq_read_back, pingresp_read_back}
use Rattle.mqtt5_codec.proofs.packet.Packet.reads_back.Goals as goal

pub returns-in-PingReq : goal.returns-in-PingReq
returns-in-PingReq c = rw c.in-PingReq.is (pingreq_read_back c.in-PingReq.field-0)

pub returns-in-PingResp : goal.returns-in-PingResp
returns-in-PingResp c = rw c.in-PingResp.is (pingresp_read_back c.in-PingResp.field-0)
